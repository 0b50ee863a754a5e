-- Loads leave the folder as it is.
use Rattle.std.proofs.Common.{◌≡◌, ℕ, Bool, true, false, not, nat_le, List, [], length, bytes_eq, Option, None, Some, Result, Ok, Err, refl, ◌∙◌, if◌then◌else◌}
use Rattle.std.specs.Map.{lookup}
use Rattle.std.specs.FinMap.{get}
use Rattle.sw_text.specs.declared.place.Span.{Span}
use Rattle.sw_text.specs.declared.fault.FaultCode.TheVariants.{Loop, Depth, NotFound}
use Rattle.sw_folder.specs.Files.{Files}
use Rattle.sw_folder.specs.Resolution.{resolved}
use Rattle.sw_folder.specs.declared.resolve.ResolveFault.{ResolveFault}
use Rattle.sw_folder.specs.declared.resolve.ResolveFault.TheVariants as R
use Rattle.sw_world.specs.declared.question.Question.{Question}
use Rattle.sw_world.specs.declared.question.Question.TheVariants.{Load, Find, Get, Put, Say, Call}
use Rattle.sw_world.specs.declared.question.How.{How}
use Rattle.sw_world.specs.declared.question.Given.{Given}
use Rattle.sw_world.specs.declared.answer.Answer.{Answer}
use Rattle.sw_world.specs.declared.end.End.{End}
use Rattle.sw_world.specs.declared.end.End.TheVariants.{Done, Fault as Fault_end}
use Rattle.sw_modules.specs.declared.members.Entry.{Entry}
use Rattle.sw_modules.specs.declared.module.Module.{Module}
use Rattle.sw_modules.specs.Interfaces.{interface_of, built_in_interface}
use Rattle.sw_modules.specs.declared.live.Begin.{Begin}
use Rattle.sw_modules.specs.declared.live.Begin.TheVariants.{Answered}
use Rattle.sw_modules.specs.State.{State, loaded_now}
use Rattle.sw_modules.specs.BuiltIns.{is_sass, is_built_in}
use Rattle.sw_modules.specs.Loads.{is_open, refused, first_explicit, built_in_unless, built_in_used, begun, begin_url, begin_path, begin_module, at_once, used_as, used_unless, interface_at_end, ended_by, first_untaken}

either_state : {A : Type 0} (b : Bool) (p q : A × State) (folder : Files) → p.1.folder ≡ folder → q.1.folder ≡ folder → (if b then p else q).1.folder ≡ folder
either_state true p q folder one other = one
either_state false p q folder one other = other

used_folder : (how : How) (path : List ℕ) (interface : List Entry) (taken : List (List ℕ)) (span : Span) (s : State) → (used_as how path interface taken span s).1.folder ≡ s.folder
used_folder how path interface taken span s = either_state _ _ _ s.folder refl refl

unless_folder : (given : Option Given) (how : How) (path : List ℕ) (interface : List Entry) (taken : List (List ℕ)) (span : Span) (s : State) → (used_unless given how path interface taken span s).1.folder ≡ s.folder
unless_folder None how path interface taken span s = used_folder how path interface taken span s
unless_folder (Some given) how path interface taken span s = refl

pub ended_folder : (op : Question) (path : List ℕ) (end : End) (s : State) → (ended_by op path end s).1.folder ≡ s.folder
ended_folder (Load site url span how config) path (Done finish) s = unless_folder (first_untaken config finish.taken) how path (interface_at_end path finish s) finish.taken span (loaded_now finish s)
ended_folder (Find site space kind name) path (Done finish) s = refl
ended_folder (Get owner name) path (Done finish) s = refl
ended_folder (Put owner name value) path (Done finish) s = refl
ended_folder (Say kind span text) path (Done finish) s = refl
ended_folder (Call name args) path (Done finish) s = refl
ended_folder (Load site url span how config) path (Fault_end fault) s = refl
ended_folder (Find site space kind name) path (Fault_end fault) s = refl
ended_folder (Get owner name) path (Fault_end fault) s = refl
ended_folder (Put owner name value) path (Fault_end fault) s = refl
ended_folder (Say kind span text) path (Fault_end fault) s = refl
ended_folder (Call name args) path (Fault_end fault) s = refl

at_once_folder : (p : Answer × State) → (at_once p).1.folder ≡ p.1.folder
at_once_folder (answer, s) = refl

module_folder : (held : Option Module) (text : Option (List ℕ)) (path : List ℕ) (span : Span) (how : How) (config : List Given) (s : State) → (begin_module held text path span how config s).1.folder ≡ s.folder
module_folder (Some held) text path span how config s =
    either_state _ _ _ s.folder refl (at_once_folder (used_as how path (interface_of path held) [] span s) ∙ used_folder how path (interface_of path held) [] span s)
module_folder None None path span how config s = refl
module_folder None (Some text) path span how config s = refl

path_folder : (path : List ℕ) (span : Span) (how : How) (config : List Given) (s : State) → (begin_path path span how config s).1.folder ≡ s.folder
path_folder path span how config s =
    let inner : Begin × State = begin_module (lookup (bytes_eq path) s.loaded) (get s.folder path) path span how config s in
    either_state (is_open s.opened path) (Answered (refused Loop span), s) (if nat_le 64 (length s.opened) then (Answered (refused Depth span), s) else inner) s.folder refl
    (either_state (nat_le 64 (length s.opened)) (Answered (refused Depth span), s) inner s.folder refl (module_folder (lookup (bytes_eq path) s.loaded) (get s.folder path) path span how config s))

url_folder : (found : Result (List ℕ) ResolveFault) (span : Span) (how : How) (config : List Given) (s : State) → (begin_url found span how config s).1.folder ≡ s.folder
url_folder (Ok path) span how config s = path_folder path span how config s
url_folder (Err R.NotFound) span how config s = refl
url_folder (Err R.Ambiguous) span how config s = refl
url_folder (Err R.Memory) span how config s = refl

unless_built_in : (given : Option Given) (url : List ℕ) (span : Span) (how : How) (s : State) → (built_in_unless given url span how s).1.folder ≡ s.folder
unless_built_in None url span how s = used_folder how url (built_in_interface url) [] span s
unless_built_in (Some given) url span how s = refl

built_in_folder : (url : List ℕ) (span : Span) (how : How) (config : List Given) (s : State) → (built_in_used url span how config s).1.folder ≡ s.folder
built_in_folder url span how config s =
    let used : Answer × State = built_in_unless (first_explicit config) url span how s in
    either_state (not (is_built_in url)) (refused NotFound span, s) (if nat_le 64 (length s.opened) then (refused Depth span, s) else used) s.folder refl
    (either_state (nat_le 64 (length s.opened)) (refused Depth span, s) used s.folder refl (unless_built_in (first_explicit config) url span how s))

pub begun_folder : (op : Question) (s : State) → (begun op s).1.folder ≡ s.folder
begun_folder (Load site url span how config) s =
    let used : Answer × State = built_in_used url span how config s in
    let sought : Begin × State = begin_url (resolved s.folder site url s.paths) span how config s in
    either_state (is_sass url) (at_once used) sought s.folder (at_once_folder used ∙ built_in_folder url span how config s)
    (url_folder (resolved s.folder site url s.paths) span how config s)
begun_folder (Find site space kind name) s = refl
begun_folder (Get owner name) s = refl
begun_folder (Put owner name value) s = refl
begun_folder (Say kind span text) s = refl
begun_folder (Call name args) s = refl
