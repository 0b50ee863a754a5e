-- What a compile without functions of a host gives (this project's own rule): what the evaluation of the entry from
-- nothing gives.
use Rattle.std.specs.Prelude.{ℕ, List, []}
use Rattle.sw_css_tree.specs.Output.{Output}
use Rattle.sw_css_print.specs.Page.{print}
use Rattle.sw_folder.specs.Files.{Files}
use Rattle.sw_world.specs.declared.end.End.{End}
use Rattle.sw_world.specs.declared.end.End.TheVariants.{Done, Fault as Fault_end}
use Rattle.sw_world.specs.declared.question.Saying.{Saying}
use Rattle.sw_modules.specs.declared.live.Enter.{Enter}
use Rattle.sw_modules.specs.declared.live.Enter.TheVariants.{Refused, Open}
use Rattle.sw_modules.specs.State.{State, nothing_loaded}
use Rattle.sw_modules.specs.Loads.{entered, entry_text, left_by}
use Rattle.sw_modules.specs.Fresh.{Setting, from_open}
use Rattle.sw_record.specs.declared.reply.Outcome.{Outcome}
use Rattle.sw_record.specs.declared.reply.Outcome.TheVariants.{Css, Error}

-- a compile: its messages, and its CSS or its fault
pub record Compile : Type 0 where
  pub says : List Saying
  pub outcome : Outcome

-- the outputs of the modules are written in the order in which their bodies ended
abbrev pub outcome_of : End → List Output → Outcome
outcome_of (Done finish) outputs = Css (print outputs)
outcome_of (Fault_end fault) outputs = Error fault

-- the body of the entry ended so
abbrev pub after_entry : End → State → Compile
after_entry end s = let t = left_by end s in record { says = t.says; outcome = outcome_of end t.outputs }

abbrev pub from_entry : Setting → Enter → State → Compile
from_entry setting (Refused fault) s = record { says = []; outcome = Error fault }
from_entry setting (Open path text) s =
    let c = from_open setting (record { live = s; hosts = [] }) path text [] in after_entry c.end c.outside.live

abbrev pub compile_by : Setting → Enter × State → Compile
compile_by setting p = from_entry setting p.0 p.1

-- a compile of an entry of a folder with these load paths, from nothing
abbrev pub compiled : Setting → Files → List (List ℕ) → List ℕ → Compile
compiled setting folder paths entry =
    compile_by setting (entered entry (entry_text folder entry) (nothing_loaded folder paths))
