-- How a compile begins.
use Rattle.std.proofs.Common.{◌≡◌, ℕ, suc, ◌-◌, List, [], None, Some, Result, Ok, refl, sym, ◌∙◌, ap, subst, append-nil}
use Rattle.std.specs.FinMap.{empty}
use Rattle.sw_folder.specs.Files.{Files}
use Rattle.sw_text.specs.declared.fault.Fault.{Fault}
use Rattle.sw_tree.specs.declared.sheet.Sheet.{Sheet}
use Rattle.sw_values.specs.declared.plain.Plain.{Plain}
use Rattle.sw_world.specs.Body.{Job}
use Rattle.sw_world.specs.Laws.{most_asked}
use Rattle.sw_modules.specs.declared.live.Enter.{Enter}
use Rattle.sw_modules.specs.declared.live.Enter.TheVariants.{Open}
use Rattle.sw_modules.specs.State.{State, nothing_loaded, open_at}
use Rattle.sw_modules.specs.Loads.{entered, entry_text, IsEntered}
use Rattle.sw_modules.specs.Fresh.{Setting, Outcome, fresh, room, evaluated_by, rest_of}
use Rattle.sw_step_bodies.specs.declared.begun.Start.{Start}
use Rattle.sw_step_bodies.specs.Compiled.{after_entry, compile_by}
use Rattle.sw_step_bodies.specs.Stepping.{Stepping, steps_by, steps_read, steps_left}
use Rattle.sw_step_bodies.specs.Standing.{Rest, Moment, Close, Standing, Waits, close_left, left_at, outside_of, whole}
use Rattle.sw_step_bodies.specs.Bodies.{Inner}
use Rattle.sw_step_bodies.specs.Moves.{moment_of}
use Rattle.sw_step_bodies.specs.Under.{over_folder, left_of}
use Rattle.sw_step_bodies.proofs.Asked.{closes}

-- what a compile is to come to that begins so
whole_by : Setting → Enter × State → Rest
whole_by setting p =
    record { steps = (steps_by setting p).steps; reply = record { says = (compile_by setting p).says; times = (steps_by setting p).times; outcome = (compile_by setting p).outcome } }

whole_is : (setting : Setting) (folder : Files) (paths : List (List ℕ)) (entry : List ℕ) → whole setting folder paths entry ≡ whole_by setting (entered entry (entry_text folder entry) (nothing_loaded folder paths))
unfolding whole_by
whole_is setting folder paths entry = refl

-- by the sheet of the entry
whole_read : Setting → List ℕ → List ℕ → State → Result Sheet Fault → Rest
whole_read setting path text s read =
    let c : Outcome = evaluated_by (λ sheet. rest_of setting (record { sheet = sheet; config = []; path = path }) text [] [] (outside_of s)) (outside_of s) read in
    let given = after_entry c.end c.outside.live in
    let t : Stepping = steps_read (λ sheet. steps_left setting (room s) (record { sheet = sheet; config = []; path = path }) 0 [] (outside_of s)) read in
    record { steps = t.steps; reply = record { says = given.says; times = t.times; outcome = given.outcome } }

module _ (setting : Setting) (start : Start) (path text : List ℕ) (s : State) (enters : entered start.entry (entry_text start.folder start.entry) (nothing_loaded start.folder start.paths) ≡ (Open path text, s))
    (opens : s ≡ open_at path (nothing_loaded start.folder start.paths)) where
  begins_reading : left_of setting start None ≡ whole_read setting path text s (setting.read path text)
  unfolding whole_by whole_read
  begins_reading = whole_is setting start.folder start.paths start.entry ∙ ap (whole_by setting) enters

  pub begins_read : (sheet : Sheet) (m : Moment) → setting.read path text ≡ Ok sheet → over_folder start.folder m ≡ record { live = s; waits = []; inner = record { job = record { sheet = sheet; config = []; path = path }; count = 0; pairs = [] }; times = [] }
      → left_of setting start (Some m) ≡ left_of setting start None
  unfolding whole_read
  begins_read sheet m reads is =
      let job : Job = record { sheet = sheet; config = []; path = path } in
      let all : ℕ → Close → List _ → Rest = λ d c l. let given = after_entry c.end c.outside.live in
      record { steps = l; reply = record { says = given.says; times = (steps_left setting d job 0 [] (outside_of s)).times; outcome = given.outcome } } in
      let here : room s ≡ 63 = ap room opens in
      ap (left_at setting) is
      ∙ ap (all 63 (close_left setting 63 job [] (outside_of s))) (append-nil (steps_left setting 63 job 0 [] (outside_of s)).steps)
      ∙ ap (λ (d : ℕ). all d (close_left setting d job [] (outside_of s)) (steps_left setting d job 0 [] (outside_of s)).steps) (sym here)
      ∙ ap (λ (c : Close). all (room s) c (steps_left setting (room s) job 0 [] (outside_of s)).steps) (closes setting (fresh setting (room s)) job [] text (suc most_asked - 0) [] [] [] (outside_of s))
      ∙ sym (begins_reading ∙ ap (whole_read setting path text s) reads)

-- by how the state, the entry and the first body come to be
pub begins_here : (setting : Setting) (start : Start) (path text : List ℕ) (sheet : Sheet) (config : List (List ℕ × Plain)) (first s parked : State) (enter : Enter) (waits : List Waits) (i : Inner) (times : List (List ℕ × ℕ))
    → first ≡ nothing_loaded start.folder start.paths → entered start.entry (entry_text first.folder start.entry) first ≡ (enter, s) → enter ≡ Open path text → IsEntered enter first s
    → setting.read path text ≡ Ok sheet → config ≡ [] → parked ≡ record s { folder = empty } → waits ≡ [] → i ≡ record { standing = record { job = record { sheet = sheet; config = config; path = path }; count = 0; pairs = [] }; asks = None } → times ≡ []
    → left_at setting (over_folder start.folder (moment_of parked waits i times)) ≡ whole setting start.folder start.paths start.entry
begins_here setting start path text sheet config first s parked enter waits i times is enters opened was reads none parks no_waits inner no_times =
    let enters2 : entered start.entry (entry_text start.folder start.entry) (nothing_loaded start.folder start.paths) ≡ (Open path text, s) =
    ap (λ (t : State). entered start.entry (entry_text t.folder start.entry) t) (sym is) ∙ enters ∙ ap (λ (e : Enter). (e, s)) opened in
    let opens : s ≡ open_at path (nothing_loaded start.folder start.paths) = (subst (λ (e : Enter). IsEntered e first s) opened was).0 ∙ ap (open_at path) is in
    let over : record parked { folder = start.folder } ≡ s = ap (λ (t : State). record t { folder = start.folder }) parks ∙ ap (λ (f : Files). record s { folder = f }) (sym (ap (λ (t : State). t.folder) opens)) in
    let standing : Standing = record { job = record { sheet = sheet; config = []; path = path }; count = 0; pairs = [] } in
    begins_read setting start path text s enters2 opens sheet (moment_of parked waits i times) reads
    (
    ap (λ (t : State). record { live = t; waits = waits; inner = i.standing; times = times }) over
    ∙ ap (λ (l : List Waits). record { live = s; waits = l; inner = i.standing; times = times }) no_waits
    ∙ ap (λ (k : Inner). record { live = s; waits = []; inner = k.standing; times = times }) inner
    ∙ ap (λ (c : List (List ℕ × Plain)). record { live = s; waits = []; inner = record { job = record { sheet = sheet; config = c; path = path }; count = 0; pairs = [] }; times = times }) none
    ∙ ap (λ (l : List (List ℕ × ℕ)). record { live = s; waits = []; inner = standing; times = l }) no_times
    )
