-- The outputs of a compile (this project's own rule): those of its runs that ended well, in the order in which they
-- ended.
use Rattle.std.specs.Prelude.{◌≡◌, ℕ, List, [], ◌∷◌}
use Rattle.std.specs.List.{flat_map}
use Rattle.sw_css_tree.specs.Output.{Output}
use Rattle.sw_css_print.specs.Page.{print}
use Rattle.sw_folder.specs.Files.{Files}
use Rattle.sw_world.specs.Hosts.{HostState}
use Rattle.sw_world.specs.declared.end.End.{End}
use Rattle.sw_world.specs.declared.end.End.TheVariants.{Done, Fault}
use Rattle.sw_world.specs.Body.{Run}
use Rattle.sw_modules.specs.Fresh.{Setting}
use Rattle.sw_record.specs.declared.reply.Outcome.{Outcome}
use Rattle.sw_record.specs.declared.reply.Outcome.TheVariants.{Css, Error}
use Rattle.sw_keeper.specs.Compile.{compiled}

-- what a body that ended so has put out
abbrev pub output_of : End → List Output
output_of (Done finish) = finish.css ∷ []
output_of (Fault fault) = []

abbrev pub outputs_of : List Run → List Output
outputs_of runs = flat_map (λ run. output_of run.end) runs

-- the CSS is that of the outputs of these runs
abbrev pub IsCssOf : Outcome → List Run → Type 0
IsCssOf (Css bytes) runs = bytes ≡ print (outputs_of runs)
IsCssOf (Error fault) runs = Unit {0}

-- so the CSS of modules stands in the order in which their bodies ended, and not in that in which they were loaded
-- first
abbrev pub CssIsOfRuns : Type 0
CssIsOfRuns =
    (setting : Setting) (folder : Files) (paths : List (List ℕ)) (entry : List ℕ) (hosts : HostState) →
    IsCssOf (compiled setting folder paths entry hosts).outcome (compiled setting folder paths entry hosts).runs
