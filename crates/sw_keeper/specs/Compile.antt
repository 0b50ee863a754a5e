-- What a compile gives (this project's own rule): what the evaluation of the entry from nothing gives.
use Rattle.std.specs.Prelude.{◌≡◌, ◌≤◌, ℕ, List, [], ◌++◌, length, map, take}
use Rattle.sw_css_tree.specs.Output.{Output}
use Rattle.sw_css_print.specs.Page.{print}
use Rattle.sw_folder.specs.Files.{Files}
use Rattle.sw_world.specs.Hosts.{HostState}
use Rattle.sw_world.specs.declared.end.End.{End}
use Rattle.sw_world.specs.declared.end.End.TheVariants.{Done, Fault as Fault_end}
use Rattle.sw_world.specs.declared.question.Saying.{Saying}
use Rattle.sw_modules.specs.declared.live.Enter.{Enter}
use Rattle.sw_modules.specs.declared.live.Enter.TheVariants.{Refused, Open}
use Rattle.sw_modules.specs.State.{State, nothing_loaded}
use Rattle.sw_modules.specs.Loads.{entered, entry_text, left_by}
use Rattle.sw_world.specs.Body.{Run}
use Rattle.sw_modules.specs.Outside.{Outside}
use Rattle.sw_modules.specs.Fresh.{Setting, Outcome as Evaluated, from_open}
use Rattle.sw_modules.specs.Calls.{HostCall, after_calls, calls_open}
use Rattle.sw_record.specs.declared.reply.Cause.{Cause}
use Rattle.sw_record.specs.declared.reply.Reply.{Reply}
use Rattle.sw_record.specs.Ran.{Ran}
use Rattle.sw_record.specs.declared.reply.Outcome.{Outcome}
use Rattle.sw_record.specs.declared.reply.Outcome.TheVariants.{Css, Error}
use Rattle.sw_keeper.specs.Keeping.{Keeping, kept_in, AreKept}

-- a compile: its messages, its CSS or its fault, the runs of its modules in the order in which they ended, its calls of
-- the host's functions, and the state of these then
pub record Compile : Type 0 where
  pub says : List Saying
  pub outcome : Outcome
  pub runs : List Run
  pub calls : List HostCall
  pub hosts : HostState

-- the outputs of the modules are written in the order in which their bodies ended
abbrev pub outcome_of : End → List Output → Outcome
outcome_of (Done finish) outputs = Css (print outputs)
outcome_of (Fault_end fault) outputs = Error fault

abbrev pub after_entry : List HostCall → Evaluated → Compile
after_entry calls c = let s = left_by c.end c.outside.live in
    record {
      says = s.says;
      outcome = outcome_of c.end s.outputs;
      runs = c.runs;
      calls = calls;
      hosts = c.outside.hosts;
    }

abbrev pub from_entry : Setting → HostState → Enter → State → Compile
from_entry setting hosts (Refused fault) s =
    record { says = []; outcome = Error fault; runs = []; calls = []; hosts = hosts }
from_entry setting hosts (Open path text) s =
    let o : Outside = record { live = s; hosts = hosts } in
    after_entry (calls_open setting o path text []) (from_open setting o path text [])

abbrev pub compile_by : Setting → HostState → Enter × State → Compile
compile_by setting hosts p = from_entry setting hosts p.0 p.1

-- a compile of an entry of a folder with these load paths, from nothing
abbrev pub compiled : Setting → Files → List (List ℕ) → List ℕ → HostState → Compile
compiled setting folder paths entry hosts =
    compile_by setting hosts (entered entry (entry_text folder entry) (nothing_loaded folder paths))

-- the paths of the modules whose bodies ran, in the order in which these ended
abbrev pub paths_of : List (List ℕ × Cause) → List (List ℕ)
paths_of ran = map (λ one. one.0) ran

-- a compile that was answered: its reply, its runs among the kept ones, and what the engine tells of
pub record CompilesTo (c : Compile) (reply : Reply) (old new : Keeping) (hosts_now : HostState)
    (told_old told_new : List (List ℕ)) : Type 0 where
  pub says : reply.says ≡ c.says
  pub outcome : reply.outcome ≡ c.outcome
  pub ran : Ran (kept_in old.kept) c.runs reply.ran
  pub told : told_new ≡ told_old ++ paths_of reply.ran
  pub hosts : hosts_now ≡ c.hosts
  pub kept : AreKept old.kept c.runs new.kept
  pub folder : new.folder ≡ old.folder

-- the host's functions after so many first calls of a compile
abbrev pub after_first : Setting → Compile → ℕ → HostState → HostState
after_first setting c count hosts = after_calls setting.functions (take count c.calls) hosts

-- a compile that was refused for want of memory: so many of its first calls were made, and some bodies ran
pub record BreaksOff (setting : Setting) (folder : Files) (paths : List (List ℕ)) (entry : List ℕ)
    (old now : HostState) (told_old told_new : List (List ℕ)) : Type 0 where
  pub count : ℕ
  pub few : count ≤ length (compiled setting folder paths entry old).calls
  pub hosts : now ≡ after_first setting (compiled setting folder paths entry old) count old
  pub more : List (List ℕ)
  pub told : told_new ≡ told_old ++ more
