-- What the parts of a whole compile come to.
use Rattle.std.specs.Prelude.{◌≡◌, ℕ, List, ◌++◌}
use Rattle.sw_world.specs.Hosts.{HostState}
use Rattle.sw_world.specs.Body.{Run}
use Rattle.sw_record.specs.declared.reply.Reply.{Reply}
use Rattle.sw_record.specs.Ran.{Ran}
use Rattle.sw_folder.specs.Files.{Files}
use Rattle.sw_modules.specs.Fresh.{Setting}
use Rattle.sw_keeper.specs.Keeping.{Table, kept_in}
use Rattle.sw_keeper.specs.Compile.{Compile, compiled, paths_of}
use Rattle.sw_keeper.specs.Cuts.{CutOff}

-- a reply has the messages and the outcome of a compile, and these are its runs; the bodies of those that aren't the
-- kept ones ran, and the engine told
pub record IsCompiled (compile : Compile) (table : Table) (reply : Reply) (runs : List Run) (hosts : HostState)
    (told_old told_new : List (List ℕ)) : Type 0 where
  pub says : reply.says ≡ compile.says
  pub outcome : reply.outcome ≡ compile.outcome
  pub same_runs : runs ≡ compile.runs
  pub same_hosts : hosts ≡ compile.hosts
  pub ran : Ran (kept_in table) compile.runs reply.ran
  pub told : told_new ≡ told_old ++ paths_of reply.ran

-- a compile was cut off
abbrev pub CompileCut : Setting → Files → List (List ℕ) → List ℕ → HostState → HostState → List (List ℕ)
    → List (List ℕ) → Type 0
CompileCut setting folder paths entry old now told_old told_new =
    CutOff setting (compiled setting folder paths entry old).calls old now told_old told_new
