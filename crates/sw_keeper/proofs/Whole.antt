-- A whole compile.
use Rattle.std.proofs.Common.{◌≡◌, ℕ, List, [], ◌++◌, append-nil, refl, sym, ◌∙◌, ap, subst, Option, None, Some}
use Rattle.sw_text.specs.declared.fault.Fault.{Fault}
use Rattle.sw_folder.specs.Files.{Files}
use Rattle.sw_values.specs.declared.plain.Plain.{Plain}
use Rattle.sw_world.specs.Hosts.{HostState}
use Rattle.sw_world.specs.declared.end.End.{End}
use Rattle.sw_world.specs.declared.question.Saying.{Saying}
use Rattle.sw_modules.specs.declared.live.Enter.{Enter}
use Rattle.sw_modules.specs.declared.live.Enter.TheVariants.{Refused, Open}
use Rattle.sw_modules.specs.State.{State, nothing_loaded}
use Rattle.sw_modules.specs.Loads.{entered, entry_text, left_by}
use Rattle.sw_modules.specs.Fresh.{Setting, Outcome as Evaluated, from_open}
use Rattle.sw_modules.specs.Calls.{HostCall, calls_open}
use Rattle.sw_record.specs.declared.reply.Cause.{Cause}
use Rattle.sw_record.specs.declared.reply.Outcome.{Outcome}
use Rattle.sw_record.specs.declared.reply.Outcome.TheVariants.{Error}
use Rattle.sw_record.specs.Ran.{Ran}
use Rattle.sw_keeper.specs.Keeping.{Table, kept_in}
use Rattle.sw_keeper.specs.Compile.{Compile, compiled, compile_by, from_entry, after_entry, outcome_of, paths_of}
use Rattle.sw_keeper.specs.Outputs.{outputs_of}
use Rattle.sw_keeper.proofs.Outputs.{open_adds}
use Rattle.sw_keeper.specs.Results.{Results}
use Rattle.sw_keeper.specs.Steps.{Moment, DidEvaluate, moment_of}
use Rattle.sw_keeper.specs.Whole.{IsCompiled}

pub compiled_by : (setting : Setting) (folder : Files) (paths : List (List ℕ)) (entry : List ℕ) (hosts : HostState) (enter : Enter) (s t : State)
    → s ≡ nothing_loaded folder paths → entered entry (entry_text s.folder entry) s ≡ (enter, t) → compiled setting folder paths entry hosts ≡ from_entry setting hosts enter t
compiled_by setting folder paths entry hosts enter s t starts enters =
    let P : State → Type 0 = λ x. entered entry (entry_text x.folder entry) x ≡ (enter, t) in
    ap (compile_by setting hosts) (subst P starts enters)

-- an entry that is refused
pub is_refused : (setting : Setting) (folder : Files) (paths : List (List ℕ)) (entry : List ℕ) (hosts : HostState) (table : Table) (enter : Enter) (fault : Fault) (s t : State) (told : List (List ℕ))
    → s ≡ nothing_loaded folder paths → entered entry (entry_text s.folder entry) s ≡ (enter, t) → enter ≡ Refused fault
    → IsCompiled (compiled setting folder paths entry hosts) table (record { says = []; ran = []; outcome = Error fault }) [] hosts told told
is_refused setting folder paths entry hosts table enter fault s t told starts enters is =
    let all : compiled setting folder paths entry hosts ≡ record { says = []; outcome = Error fault; runs = []; calls = []; hosts = hosts } =
    compiled_by setting folder paths entry hosts enter s t starts enters ∙ ap (λ (e : Enter). from_entry setting hosts e t) is in
    subst (λ (c : Compile). IsCompiled c table (record { says = []; ran = []; outcome = Error fault }) [] hosts told told) (sym all)
    (record { says = refl; outcome = refl; same_runs = refl; same_hosts = refl; ran = refl; told = sym (append-nil told) })

entered_outputs : (entry : List ℕ) (text : Option (List ℕ)) (s : State) → (entered entry text s).1.outputs ≡ s.outputs
entered_outputs entry None s = refl
entered_outputs entry (Some text) s = refl

-- an entry that was evaluated
pub is_opened : (setting : Setting) (folder : Files) (paths : List (List ℕ)) (entry : List ℕ) (hosts : HostState) (table : Table) (enter : Enter) (path text : List ℕ) (config : List (List ℕ × Plain)) (end : End) (s m u : State) (r0 : Results) (told : List (List ℕ)) (t : Moment)
    (says : List Saying) (outcome : Outcome)
    → s ≡ nothing_loaded folder paths → entered entry (entry_text s.folder entry) s ≡ (enter, m) → enter ≡ Open path text → config ≡ [] → r0 ≡ record { runs = []; ran = [] }
    → DidEvaluate setting table path text config end (moment_of m hosts r0 told) t → u ≡ left_by end t.outside.live → says ≡ u.says → outcome ≡ outcome_of end (outputs_of t.results.runs)
    → IsCompiled (compiled setting folder paths entry hosts) table (record { says = says; ran = t.results.ran; outcome = outcome }) t.results.runs t.outside.hosts told t.told
is_opened setting folder paths entry hosts table enter path text config end s m u r0 told t says outcome starts enters is none_given none did leaves says_is outcome_is =
    let o : Evaluated = record { outside = t.outside; runs = did.runs; end = end } in
    let gives : from_open setting (record { live = m; hosts = hosts }) path text [] ≡ o = ap (λ c. from_open setting (record { live = m; hosts = hosts }) path text c) (sym none_given) ∙ did.gives in
    let calls : List HostCall = calls_open setting (record { live = m; hosts = hosts }) path text [] in
    let all : compiled setting folder paths entry hosts ≡ after_entry calls o =
    compiled_by setting folder paths entry hosts enter s m starts enters ∙ ap (λ (e : Enter). from_entry setting hosts e m) is ∙ ap (after_entry calls) gives in
    let ran_is : t.results.ran ≡ did.grown.grown = did.grown.ran ∙ ap (λ (r : Results). r.ran ++ did.grown.grown) none in
    let runs_are : t.results.runs ≡ did.runs = did.grown.runs ∙ ap (λ (r : Results). r.runs ++ did.runs) none in
    let no_output : m.outputs ≡ [] = sym (ap (λ (p : Enter × State). p.1.outputs) enters) ∙ entered_outputs entry (entry_text s.folder entry) s ∙ ap (λ (x : State). x.outputs) starts in
    let Adds_all : Evaluated → Type 0 = λ c. (left_by c.end c.outside.live).outputs ≡ m.outputs ++ outputs_of c.runs in
    let outputs : (left_by end t.outside.live).outputs ≡ outputs_of did.runs = subst Adds_all gives (open_adds setting (record { live = m; hosts = hosts }) path text []) ∙ ap (λ l. l ++ outputs_of did.runs) no_output in
    subst (λ (c : Compile). IsCompiled c table (record { says = says; ran = t.results.ran; outcome = outcome }) t.results.runs t.outside.hosts told t.told) (sym all)
    (record {
      says = says_is ∙ ap (λ (x : State). x.says) leaves;
      outcome = outcome_is ∙ ap (λ runs. outcome_of end (outputs_of runs)) runs_are ∙ ap (outcome_of end) (sym outputs);
      same_runs = runs_are;
      same_hosts = refl;
      ran = subst (λ (l : List (List ℕ × Cause)). Ran (kept_in table) did.runs l) (sym ran_is) did.grown.is;
      told = did.grown.told ∙ ap (λ l. told ++ paths_of l) (sym ran_is);
    })
