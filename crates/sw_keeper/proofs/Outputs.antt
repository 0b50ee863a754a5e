-- The outputs of a compile are those of its runs.
use Rattle.std.proofs.Common.{◌≡◌, Bool, true, false, not, if◌then◌else◌, ℕ, zero, suc, ◌-◌, nat_le, bytes_eq, length, List, [], ◌∷◌, ◌++◌, append_assoc, append-nil, refl, sym, ◌∙◌, ap, Option, None, Some, Result, Ok, Err}
use Rattle.std.specs.Map.{lookup}
use Rattle.std.specs.FinMap.{get}
use Rattle.std.proofs.lemmas.List.Concat.{flat_map-append}
use Rattle.sw_text.specs.declared.place.Span.{Span}
use Rattle.sw_text.specs.declared.fault.Fault.{Fault}
use Rattle.sw_text.specs.declared.fault.FaultCode.TheVariants.{Loop, Depth, NotFound}
use Rattle.sw_tree.specs.declared.sheet.Sheet.{Sheet}
use Rattle.sw_values.specs.declared.plain.Plain.{Plain}
use Rattle.sw_css_tree.specs.Output.{Output}
use Rattle.sw_css_print.specs.Page.{print}
use Rattle.sw_folder.specs.Files.{Files}
use Rattle.sw_folder.specs.declared.resolve.ResolveFault.{ResolveFault}
use Rattle.sw_folder.specs.declared.resolve.ResolveFault.TheVariants as R
use Rattle.sw_folder.specs.Resolution.{resolved}
use Rattle.sw_world.specs.Hosts.{HostState}
use Rattle.sw_world.specs.declared.question.Question.{Question}
use Rattle.sw_world.specs.declared.question.Question.TheVariants.{Load, Find, Get, Put, Say, Call}
use Rattle.sw_world.specs.declared.question.How.{How}
use Rattle.sw_world.specs.declared.question.Given.{Given}
use Rattle.sw_world.specs.declared.answer.Answer.{Answer}
use Rattle.sw_world.specs.declared.end.End.{End}
use Rattle.sw_world.specs.declared.end.End.TheVariants.{Done, Fault as Fault_end}
use Rattle.sw_world.specs.Body.{Pair, Run, Job, Next, Asks, Ends, answers}
use Rattle.sw_modules.specs.declared.members.Entry.{Entry}
use Rattle.sw_modules.specs.declared.module.Module.{Module}
use Rattle.sw_modules.specs.Interfaces.{interface_of, built_in_interface}
use Rattle.sw_modules.specs.declared.live.Begin.{Begin}
use Rattle.sw_modules.specs.declared.live.Begin.TheVariants.{Answered, Open}
use Rattle.sw_modules.specs.State.{State, nothing_loaded, open_at, path_in, loaded_now}
use Rattle.sw_modules.specs.BuiltIns.{is_sass, is_built_in}
use Rattle.sw_modules.specs.Loads.{is_open, refused, first_explicit, built_in_unless, built_in_used, begun, begin_url, begin_path, begin_module, at_once, used_as, used_unless, interface_at_end, ended_by, left_by, entered, entry_text, first_untaken}
use Rattle.sw_modules.specs.Outside.{Functions, Outside}
use Rattle.sw_modules.specs.Fresh.{Setting, Outcome as Evaluated, Evaluation, Response, load_by, responds, ended, turn, goes_on, evaluated_by, fresh, room, rest_of, from_open}
use Rattle.sw_world.specs.Laws.{most_asked}
use Rattle.sw_keeper.specs.Compile.{compile_by, outcome_of}
use Rattle.sw_keeper.specs.Outputs.{output_of, outputs_of, IsCssOf, CssIsOfRuns}

-- Loads

left_outputs : (end : End) (s : State) → (left_by end s).outputs ≡ s.outputs ++ output_of end
left_outputs (Done finish) s = refl
left_outputs (Fault_end fault) s = sym (append-nil s.outputs)

either_state : {A : Type 0} (b : Bool) (p q : A × State) (outputs : List Output) → p.1.outputs ≡ outputs → q.1.outputs ≡ outputs → (if b then p else q).1.outputs ≡ outputs
either_state true p q outputs one other = one
either_state false p q outputs one other = other

used_outputs : (how : How) (path : List ℕ) (interface : List Entry) (taken : List (List ℕ)) (span : Span) (s : State) → (used_as how path interface taken span s).1.outputs ≡ s.outputs
used_outputs how path interface taken span s = either_state _ _ _ s.outputs refl refl

unless_outputs : (given : Option Given) (how : How) (path : List ℕ) (interface : List Entry) (taken : List (List ℕ)) (span : Span) (s : State) → (used_unless given how path interface taken span s).1.outputs ≡ s.outputs
unless_outputs None how path interface taken span s = used_outputs how path interface taken span s
unless_outputs (Some given) how path interface taken span s = refl

ended_outputs : (op : Question) (path : List ℕ) (end : End) (s : State) → (ended_by op path end s).1.outputs ≡ (left_by end s).outputs
ended_outputs (Load site url span how config) path (Done finish) s = unless_outputs (first_untaken config finish.taken) how path (interface_at_end path finish s) finish.taken span (loaded_now finish s)
ended_outputs (Find site space kind name) path (Done finish) s = refl
ended_outputs (Get owner name) path (Done finish) s = refl
ended_outputs (Put owner name value) path (Done finish) s = refl
ended_outputs (Say kind span text) path (Done finish) s = refl
ended_outputs (Call name args) path (Done finish) s = refl
ended_outputs (Load site url span how config) path (Fault_end fault) s = refl
ended_outputs (Find site space kind name) path (Fault_end fault) s = refl
ended_outputs (Get owner name) path (Fault_end fault) s = refl
ended_outputs (Put owner name value) path (Fault_end fault) s = refl
ended_outputs (Say kind span text) path (Fault_end fault) s = refl
ended_outputs (Call name args) path (Fault_end fault) s = refl

at_once_outputs : (p : Answer × State) → (at_once p).1.outputs ≡ p.1.outputs
at_once_outputs (answer, s) = refl

module_outputs : (held : Option Module) (text : Option (List ℕ)) (path : List ℕ) (span : Span) (how : How) (config : List Given) (s : State) → (begin_module held text path span how config s).1.outputs ≡ s.outputs
module_outputs (Some held) text path span how config s =
    either_state _ _ _ s.outputs refl (at_once_outputs (used_as how path (interface_of path held) [] span s) ∙ used_outputs how path (interface_of path held) [] span s)
module_outputs None None path span how config s = refl
module_outputs None (Some text) path span how config s = refl

path_outputs : (path : List ℕ) (span : Span) (how : How) (config : List Given) (s : State) → (begin_path path span how config s).1.outputs ≡ s.outputs
path_outputs path span how config s =
    let inner : Begin × State = begin_module (lookup (bytes_eq path) s.loaded) (get s.folder path) path span how config s in
    either_state (is_open s.opened path) (Answered (refused Loop span), s) (if nat_le 64 (length s.opened) then (Answered (refused Depth span), s) else inner) s.outputs refl
    (either_state (nat_le 64 (length s.opened)) (Answered (refused Depth span), s) inner s.outputs refl (module_outputs (lookup (bytes_eq path) s.loaded) (get s.folder path) path span how config s))

url_outputs : (found : Result (List ℕ) ResolveFault) (span : Span) (how : How) (config : List Given) (s : State) → (begin_url found span how config s).1.outputs ≡ s.outputs
url_outputs (Ok path) span how config s = path_outputs path span how config s
url_outputs (Err R.NotFound) span how config s = refl
url_outputs (Err R.Ambiguous) span how config s = refl
url_outputs (Err R.Memory) span how config s = refl

unless_built_in : (given : Option Given) (url : List ℕ) (span : Span) (how : How) (s : State) → (built_in_unless given url span how s).1.outputs ≡ s.outputs
unless_built_in None url span how s = used_outputs how url (built_in_interface url) [] span s
unless_built_in (Some given) url span how s = refl

built_in_outputs : (url : List ℕ) (span : Span) (how : How) (config : List Given) (s : State) → (built_in_used url span how config s).1.outputs ≡ s.outputs
built_in_outputs url span how config s =
    let used : Answer × State = built_in_unless (first_explicit config) url span how s in
    either_state (not (is_built_in url)) (refused NotFound span, s) (if nat_le 64 (length s.opened) then (refused Depth span, s) else used) s.outputs refl
    (either_state (nat_le 64 (length s.opened)) (refused Depth span, s) used s.outputs refl (unless_built_in (first_explicit config) url span how s))

begun_outputs : (site url : List ℕ) (span : Span) (how : How) (config : List Given) (s : State) → (begun (Load site url span how config) s).1.outputs ≡ s.outputs
begun_outputs site url span how config s =
    let used : Answer × State = built_in_used url span how config s in
    let sought : Begin × State = begin_url (resolved s.folder site url s.paths) span how config s in
    either_state (is_sass url) (at_once used) sought s.outputs (at_once_outputs used ∙ built_in_outputs url span how config s)
    (url_outputs (resolved s.folder site url s.paths) span how config s)

-- Evaluations

-- the outputs, when the module that was evaluated is left
abbrev outputs_then : Evaluated → List Output
outputs_then c = (left_by c.end c.outside.live).outputs

-- an evaluation adds the outputs of its runs
abbrev Adds : Evaluation → Type 0
Adds inner = (o : Outside) (path text : List ℕ) (config : List (List ℕ × Plain)) → outputs_then (inner o path text config) ≡ o.live.outputs ++ outputs_of (inner o path text config).runs

append : (xs ys : List Run) → outputs_of (xs ++ ys) ≡ outputs_of xs ++ outputs_of ys
append xs ys = flat_map-append (λ run. output_of run.end) xs ys

load_outputs : (inner : Evaluation) → Adds inner → (op : Question) (begin : Begin) (s : State) (o : Outside) → s.outputs ≡ o.live.outputs
    → (load_by inner op begin s o).outside.live.outputs ≡ o.live.outputs ++ outputs_of (load_by inner op begin s o).runs
load_outputs inner adds op (Answered answer) s o same = same ∙ sym (append-nil o.live.outputs)
load_outputs inner adds op (Open path text config) s o same =
    let c : Evaluated = inner (record o { live = s }) path text config in
    ended_outputs op (path_in c.outside.live.opened) c.end c.outside.live ∙ adds (record o { live = s }) path text config ∙ ap (λ outputs. outputs ++ outputs_of c.runs) same

response_outputs : (functions : Functions) (inner : Evaluation) → Adds inner → (op : Question) (o : Outside)
    → (responds functions inner op o).outside.live.outputs ≡ o.live.outputs ++ outputs_of (responds functions inner op o).runs
response_outputs functions inner adds (Load site url span how config) o =
    load_outputs inner adds (Load site url span how config) (begun (Load site url span how config) o.live).0 (begun (Load site url span how config) o.live).1 o
    (begun_outputs site url span how config o.live)
response_outputs functions inner adds (Find site space kind name) o = sym (append-nil o.live.outputs)
response_outputs functions inner adds (Get owner name) o = sym (append-nil o.live.outputs)
response_outputs functions inner adds (Put owner name value) o = sym (append-nil o.live.outputs)
response_outputs functions inner adds (Say kind span text) o = sym (append-nil o.live.outputs)
response_outputs functions inner adds (Call name args) o = sym (append-nil o.live.outputs)

end_outputs : (job : Job) (text : List ℕ) (pairs : List Pair) (runs : List Run) (o : Outside) (end : End) (base : List Output) → o.live.outputs ≡ base ++ outputs_of runs
    → outputs_then (ended job text pairs runs o end) ≡ base ++ outputs_of (ended job text pairs runs o end).runs
end_outputs job text pairs runs o end base same =
    let run : Run = record { path = job.path; text = text; config = job.config; seen = pairs; end = end } in
    left_outputs end o.live ∙ ap (λ outputs. outputs ++ output_of end) same ∙ append_assoc base (outputs_of runs) (output_of end)
    ∙ ap (λ outputs. base ++ (outputs_of runs ++ outputs)) (sym (append-nil (output_of end))) ∙ ap (λ outputs. base ++ outputs) (sym (append runs (run ∷ [])))

more_outputs : (base out now : List Output) (runs more : List Run) → now ≡ out ++ outputs_of more → out ≡ base ++ outputs_of runs → now ≡ base ++ outputs_of (runs ++ more)
more_outputs base out now runs more grew same =
    grew ∙ ap (λ outputs. outputs ++ outputs_of more) same ∙ append_assoc base (outputs_of runs) (outputs_of more) ∙ ap (λ outputs. base ++ outputs) (sym (append runs more))

turn_outputs : (functions : Functions) (inner : Evaluation) → Adds inner → (rest : List Pair → List Run → Outside → Evaluated) (base : List Output)
    → ((pairs : List Pair) (runs : List Run) (o : Outside) → o.live.outputs ≡ base ++ outputs_of runs → outputs_then (rest pairs runs o) ≡ base ++ outputs_of (rest pairs runs o).runs)
    → (job : Job) (text : List ℕ) (pairs : List Pair) (runs : List Run) (o : Outside) (next : Next) → o.live.outputs ≡ base ++ outputs_of runs
    → outputs_then (turn functions inner rest job text pairs runs o next) ≡ base ++ outputs_of (turn functions inner rest job text pairs runs o next).runs
turn_outputs functions inner adds rest base later job text pairs runs o (Ends end) same = end_outputs job text pairs runs o end base same
turn_outputs functions inner adds rest base later job text pairs runs o (Asks op) same =
    let r : Response = responds functions inner op o in
    later (pairs ++ (op, r.answer) ∷ []) (runs ++ r.runs) r.outside (more_outputs base o.live.outputs r.outside.live.outputs runs r.runs (response_outputs functions inner adds op o) same)

rest_outputs : (setting : Setting) (inner : Evaluation) → Adds inner → (job : Job) (text : List ℕ) (base : List Output) (more : ℕ) (pairs : List Pair) (runs : List Run) (o : Outside) → o.live.outputs ≡ base ++ outputs_of runs
    → outputs_then (goes_on setting inner job text more pairs runs o) ≡ base ++ outputs_of (goes_on setting inner job text more pairs runs o).runs
unfolding goes_on
rest_outputs setting inner adds job text base zero pairs runs o same = end_outputs job text pairs runs o _ base same
rest_outputs setting inner adds job text base (suc more) pairs runs o same =
    turn_outputs setting.functions inner adds (goes_on setting inner job text more) base (rest_outputs setting inner adds job text base more) job text pairs runs o (setting.body job (answers pairs)) same

read_outputs : (evaluate : Sheet → Evaluated) (o : Outside) (sheet : Result Sheet Fault) → ((s : Sheet) → outputs_then (evaluate s) ≡ o.live.outputs ++ outputs_of (evaluate s).runs)
    → outputs_then (evaluated_by evaluate o sheet) ≡ o.live.outputs ++ outputs_of (evaluated_by evaluate o sheet).runs
read_outputs evaluate o (Ok sheet) adds = adds sheet
read_outputs evaluate o (Err fault) adds = sym (append-nil o.live.outputs)

fresh_adds : (setting : Setting) (depth : ℕ) → Adds (fresh setting depth)
unfolding fresh
fresh_adds setting zero o path text config = sym (append-nil o.live.outputs)
fresh_adds setting (suc depth) o path text config =
    read_outputs (λ (sheet : Sheet). goes_on setting (fresh setting depth) (record { sheet = sheet; config = config; path = path }) text (suc most_asked) [] [] o) o (setting.read path text)
    (λ sheet. rest_outputs setting (fresh setting depth) (fresh_adds setting depth) (record { sheet = sheet; config = config; path = path }) text o.live.outputs (suc most_asked) [] [] o (sym (append-nil o.live.outputs)))

pub open_adds : (setting : Setting) → Adds (from_open setting)
open_adds setting o path text config =
    read_outputs (λ (sheet : Sheet). rest_of setting (record { sheet = sheet; config = config; path = path }) text [] [] o) o (setting.read path text)
    (λ sheet. rest_outputs setting (fresh setting (room o.live)) (fresh_adds setting (room o.live)) (record { sheet = sheet; config = config; path = path }) text o.live.outputs (suc most_asked - 0) [] [] o (sym (append-nil o.live.outputs)))

-- Compiles

css_of : (end : End) (outputs : List Output) (runs : List Run) → outputs ≡ outputs_of runs → IsCssOf (outcome_of end outputs) runs
css_of (Done finish) outputs runs same = ap print same
css_of (Fault_end fault) outputs runs same = tt

entry_css : (setting : Setting) (folder : Files) (paths : List (List ℕ)) (entry : List ℕ) (hosts : HostState) (text : Option (List ℕ))
    → IsCssOf (compile_by setting hosts (entered entry text (nothing_loaded folder paths))).outcome (compile_by setting hosts (entered entry text (nothing_loaded folder paths))).runs
entry_css setting folder paths entry hosts None = tt
entry_css setting folder paths entry hosts (Some text) =
    let c : Evaluated = from_open setting (record { live = open_at entry (nothing_loaded folder paths); hosts = hosts }) entry text [] in
    css_of c.end (outputs_then c) c.runs (open_adds setting (record { live = open_at entry (nothing_loaded folder paths); hosts = hosts }) entry text [])

pub css_is_of_runs : CssIsOfRuns
css_is_of_runs setting folder paths entry hosts = entry_css setting folder paths entry hosts (entry_text folder entry)
