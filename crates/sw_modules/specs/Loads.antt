-- What a load comes to: the refusals in their order, an answer at once, or a module whose body has to run (the Sass
-- specification's modules; the limit of open loads is this project's own). A built-in module is answered at once; no
-- folder is looked into for it.
use Rattle.std.specs.Prelude.{◌≡◌, ◌<◌, ◌≤◌, ℕ, ◌&&◌, not, nat_le, List, [], length, map, find, bytes_eq, Option, None, Some, Result, Ok, Err, if◌then◌else◌, Bool}
use Rattle.std.specs.List.{list_any}
use Rattle.std.specs.Map.{lookup}
use Rattle.std.specs.FinMap.{get}
use Rattle.indexmap.specs.IndexMap.{insert_all}
use Rattle.sw_text.specs.Starts.{start_of}
use Rattle.sw_text.specs.declared.place.Span.{Span}
use Rattle.sw_text.specs.declared.fault.FaultCode.{FaultCode}
use Rattle.sw_text.specs.declared.fault.FaultCode.TheVariants.{NotFound, Ambiguous, Loop, AlreadyLoaded, NotConfigurable, MemberConflict, Depth}
use Rattle.sw_folder.specs.Files.{Files, most_bytes}
use Rattle.sw_folder.specs.Paths.{is_path}
use Rattle.sw_folder.specs.Resolution.{resolved, has_extension}
use Rattle.sw_folder.specs.declared.resolve.ResolveFault.{ResolveFault}
use Rattle.sw_folder.specs.declared.resolve.ResolveFault.TheVariants as R
use Rattle.sw_values.specs.declared.plain.Plain.{Plain}
use Rattle.sw_world.specs.declared.question.Question.{Question}
use Rattle.sw_world.specs.declared.question.Question.TheVariants.{Load}
use Rattle.sw_world.specs.declared.question.How.{How}
use Rattle.sw_world.specs.declared.question.Given.{Given}
use Rattle.sw_world.specs.declared.answer.Answer.{Answer}
use Rattle.sw_world.specs.declared.answer.Answer.TheVariants.{Loaded, Refused, Done}
use Rattle.sw_world.specs.declared.end.End.{End}
use Rattle.sw_world.specs.declared.end.Finish.{Finish}
use Rattle.sw_world.specs.declared.end.End.TheVariants.{Done as Done_end, Fault as Fault_end}
use Rattle.sw_modules.specs.declared.members.Entry.{Entry}
use Rattle.sw_modules.specs.declared.module.Module.{Module}
use Rattle.sw_modules.specs.declared.module.Opened.{Opened}
use Rattle.sw_modules.specs.declared.live.Begin.{Begin}
use Rattle.sw_modules.specs.declared.live.Begin.TheVariants.{Answered, Open}
use Rattle.sw_modules.specs.declared.live.Enter.{Enter}
use Rattle.sw_modules.specs.declared.live.Enter.TheVariants.{Refused as Refused_entry, Open as Open_entry}
use Rattle.sw_modules.specs.Interfaces.{interface_of, built_in_interface, brought}
use Rattle.sw_modules.specs.Uses.{is_taken}
use Rattle.sw_modules.specs.BuiltIns.{is_sass, is_built_in}
use Rattle.sw_modules.specs.State.{State, open_at, uses_in, with_use, closed, loaded_now, module_of}

abbrev pub refused : FaultCode → Span → Answer
refused code span = Refused (record { code = code; span = span })

abbrev pub is_open : List Opened → List ℕ → Bool
is_open opened path = list_any (λ load. bytes_eq load.path path) opened

-- the names and values of a configuration: a repeated name keeps its first place and its last value
abbrev pub config_of : List Given → List (List ℕ × Plain)
config_of given = insert_all bytes_eq [] (map (λ one. (one.name, one.value)) given)

abbrev pub is_explicit : List Given → Bool
is_explicit given = list_any (λ one. one.explicit) given

-- the first value that is given in a `with`
abbrev pub first_explicit : List Given → Option Given
first_explicit given = find (λ one. one.explicit) given

-- the first name that is given in a `with` and isn't taken
abbrev pub first_untaken : List Given → List (List ℕ) → Option Given
first_untaken given taken = find (λ one. one.explicit && not (list_any (bytes_eq one.name) taken)) given

-- a loaded module that brings these members is used by the innermost open load: behind a namespace, as one whose
-- members are the sheet's own (`as *`), or forwarded. Neither may a namespace stand for a module already, nor may two
-- forwards bring members of one kind and name of different origins.
abbrev pub used_with : How → List ℕ → List Entry → List (List ℕ) → Span → State → Answer × State
used_with how path entries taken span s =
    if is_taken how entries (uses_in s.opened) then (refused MemberConflict span, s)
    else (Loaded path taken, record s { opened = with_use how path entries s.opened })

-- a loaded module with this interface
abbrev pub used_as : How → List ℕ → List Entry → List (List ℕ) → Span → State → Answer × State
used_as how path interface taken span s = used_with how path (brought how interface) taken span s

abbrev pub at_once : Answer × State → Begin × State
at_once (answer, s) = (Answered answer, s)

abbrev pub begin_module : Option Module → Option (List ℕ) → List ℕ → Span → How → List Given → State → Begin × State
begin_module (Some held) text path span how config s =
    if is_explicit config then (Answered (refused AlreadyLoaded span), s)
    else at_once (used_as how path (interface_of path held) [] span s)
begin_module None None path span how config s = (Answered (refused NotFound span), s)
begin_module None (Some text) path span how config s = (Open path text (config_of config), open_at path s)

abbrev pub begin_path : List ℕ → Span → How → List Given → State → Begin × State
begin_path path span how config s =
    if is_open s.opened path then (Answered (refused Loop span), s)
    else if nat_le 64 (length s.opened) then (Answered (refused Depth span), s)
    else begin_module (lookup (bytes_eq path) s.loaded) (get s.folder path) path span how config s

abbrev pub begin_url : Result (List ℕ) ResolveFault → Span → How → List Given → State → Begin × State
begin_url (Ok path) span how config s = begin_path path span how config s
begin_url (Err R.NotFound) span how config s = (Answered (refused NotFound span), s)
begin_url (Err R.Ambiguous) span how config s = (Answered (refused Ambiguous span), s)
begin_url (Err R.Memory) span how config s = (Answered (refused NotFound span), s)

-- a built-in module is used, unless a `with` gives values to it
abbrev pub built_in_unless : Option Given → List ℕ → Span → How → State → Answer × State
built_in_unless None url span how s = used_as how url (built_in_interface url) [] span s
built_in_unless (Some given) url span how s = (refused NotConfigurable given.span, s)

-- the answer to the load of a built-in module, and the next state
abbrev pub built_in_used : List ℕ → Span → How → List Given → State → Answer × State
built_in_used url span how config s =
    if not (is_built_in url) then (refused NotFound span, s)
    else if nat_le 64 (length s.opened) then (refused Depth span, s)
    else built_in_unless (first_explicit config) url span how s

-- what a load begins with, and the next state
abbrev pub begun : Question → State → Begin × State
begun (Load site url span how config) s =
    if is_sass url then at_once (built_in_used url span how config s)
    else begin_url (resolved s.folder site url s.paths) span how config s
begun _ s = (Answered Done, s)

-- a module whose body is done is used, unless a name of a `with` wasn't taken
abbrev pub used_unless : Option Given → How → List ℕ → List Entry → List (List ℕ) → Span → State → Answer × State
used_unless None how path interface taken span s = used_as how path interface taken span s
used_unless (Some given) how path interface taken span s = (refused NotConfigurable given.span, s)

-- the interface of the innermost open load's module, whose body has ended so
abbrev pub interface_at_end : List ℕ → Finish → State → List Entry
interface_at_end path finish s = interface_of path (module_of finish (uses_in s.opened))

-- the answer to the load whose body has ended so, and the next state
abbrev pub ended_by : Question → List ℕ → End → State → Answer × State
ended_by (Load site url span how config) path (Done_end finish) s =
    used_unless (first_untaken config finish.taken) how path (interface_at_end path finish s) finish.taken span
    (loaded_now finish s)
ended_by _ path (Done_end finish) s = (Done, loaded_now finish s)
ended_by _ path (Fault_end fault) s = (Refused fault, closed s)

-- the state after the entry's body has ended
abbrev pub left_by : End → State → State
left_by (Done_end finish) s = loaded_now finish s
left_by (Fault_end fault) s = closed s

-- the text of the entry of a compile, which has to be a sheet of the folder
abbrev pub entry_text : Files → List ℕ → Option (List ℕ)
entry_text files entry = if is_path entry && has_extension entry then get files entry else None

abbrev pub entry_fault : List ℕ → Enter
entry_fault entry = Refused_entry (record { code = NotFound; span = start_of entry })

abbrev pub entered : List ℕ → Option (List ℕ) → State → Enter × State
entered entry None s = (entry_fault entry, s)
entered entry (Some text) s = (Open_entry entry text, open_at entry s)

-- what a load answers
abbrev pub AnswersLoad : Answer → Type 0
AnswersLoad (Loaded path taken) = Unit {0}
AnswersLoad (Refused fault) = Unit {0}
AnswersLoad _ = ⊥

-- an answer leaves as many loads open as there were; a module opens one more, within the limit, and its text is a
-- file's
abbrev pub IsBegun : Begin → State → State → Type 0
IsBegun (Answered answer) s t = AnswersLoad answer × (length t.opened ≡ length s.opened)
IsBegun (Open path text config) s t = (length s.opened < 64) × (t ≡ open_at path s) × (length text ≤ most_bytes)

abbrev pub IsEntered : Enter → State → State → Type 0
IsEntered (Refused_entry fault) s t = t ≡ s
IsEntered (Open_entry path text) s t = (t ≡ open_at path s) × (length text ≤ most_bytes)
