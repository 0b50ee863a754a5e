-- The steps of a compile (this project's own rule): one for each load that opens a body, up to which the body before ran,
-- and one for each end of a body, behind which the load that waited for it is answered.
use Rattle.std.specs.Prelude.{ℕ, zero, suc, ◌-◌, List, [], ◌∷◌, ◌++◌, length, Option, None, Some, Result, Ok, Err}
use Rattle.sw_text.specs.declared.fault.Fault.{Fault}
use Rattle.sw_tree.specs.declared.sheet.Sheet.{Sheet}
use Rattle.sw_values.specs.declared.plain.Plain.{Plain}
use Rattle.sw_folder.specs.Files.{Files}
use Rattle.sw_world.specs.declared.question.Question.{Question}
use Rattle.sw_world.specs.declared.question.Question.TheVariants.{Load, Find, Get, Put, Say, Call}
use Rattle.sw_world.specs.Body.{Pair, Job, Next, Asks, Ends, answers}
use Rattle.sw_world.specs.Laws.{most_asked}
use Rattle.sw_modules.specs.declared.live.Begin.{Begin}
use Rattle.sw_modules.specs.declared.live.Begin.TheVariants.{Answered, Open}
use Rattle.sw_modules.specs.declared.live.Enter.{Enter}
use Rattle.sw_modules.specs.declared.live.Enter.TheVariants.{Refused, Open as Open_entry}
use Rattle.sw_modules.specs.State.{State, nothing_loaded}
use Rattle.sw_modules.specs.Loads.{begun, entered, entry_text}
use Rattle.sw_modules.specs.Outside.{Outside}
use Rattle.sw_modules.specs.Fresh.{Setting, Evaluation, responds, fresh, room}

pub data Step : Type 0 where
  -- the body at the first path came to a load, for which the body at the second one began
  Loading : List ℕ → List ℕ → Step
  -- the body at this path ended, and the load that waited for it was answered
  Finished : List ℕ → Step
  -- the compile ended
  Ended : Step

-- the steps of a part of a compile, and how many of them ran each body that ended in it, in the order of these ends
pub record Stepping : Type 0 where
  pub steps : List Step
  pub times : List (List ℕ × ℕ)

abbrev pub no_steps : Stepping
no_steps = record { steps = []; times = [] }

-- the steps in the evaluation of a text at a path, which is open, with a configuration: all but the last one, with which
-- its body ends
abbrev pub StepsIn : Type 0
StepsIn = Outside → List ℕ → List ℕ → List (List ℕ × Plain) → Stepping

-- a load opens a body where it opens a module whose text is read: its path, and the steps in it
abbrev pub opened_at : StepsIn → Outside → List ℕ → List ℕ → List (List ℕ × Plain) → Result Sheet Fault
    → Option (List ℕ × Stepping)
opened_at inside o path text config (Ok sheet) = Some (path, inside o path text config)
opened_at inside o path text config (Err fault) = None

abbrev pub opened_by : Setting → StepsIn → Begin → State → Outside → Option (List ℕ × Stepping)
opened_by setting inside (Answered answer) s o = None
opened_by setting inside (Open path text config) s o =
    opened_at inside (record o { live = s }) path text config (setting.read path text)

abbrev pub opened_for : Setting → StepsIn → Question → Outside → Option (List ℕ × Stepping)
opened_for setting inside (Load site url span how config) o =
    let b = begun (Load site url span how config) o.live in opened_by setting inside b.0 b.1 o
opened_for setting inside (Find site space kind name) o = None
opened_for setting inside (Get owner name) o = None
opened_for setting inside (Put owner name value) o = None
opened_for setting inside (Say kind span text) o = None
opened_for setting inside (Call name args) o = None

-- a body ends that came to so many loads which opened bodies
abbrev pub ends_after : List ℕ → ℕ → Stepping
ends_after path count = record { steps = []; times = (path, suc count) ∷ [] }

-- what a question adds to the steps of the body that asks it, and to those of the rest of it
abbrev pub steps_at : List ℕ → Option (List ℕ × Stepping) → (ℕ → Stepping) → ℕ → Stepping
steps_at path None rest count = rest count
steps_at path (Some (opened, within)) rest count = let r = rest (suc count) in
    record {
      steps = Loading path opened ∷ (within.steps ++ Finished opened ∷ r.steps);
      times = within.times ++ r.times;
    }

abbrev pub steps_turn : Setting → Evaluation → StepsIn → (ℕ → List Pair → Outside → Stepping) → Job → ℕ → List Pair
    → Outside → Next → Stepping
steps_turn setting inner inside rest job count pairs o (Ends end) = ends_after job.path count
steps_turn setting inner inside rest job count pairs o (Asks op) =
    let r = responds setting.functions inner op o in
    steps_at job.path (opened_for setting inside op o) (λ n. rest n (pairs ++ (op, r.answer) ∷ []) r.outside) count

-- those of the rest of an evaluation: a body that has these pairs behind it and came to so many loads which opened
-- bodies, and at most so many turns left
unfoldable pub steps_on : Setting → Evaluation → StepsIn → Job → ℕ → ℕ → List Pair → Outside → Stepping
steps_on setting inner inside job zero count pairs o = ends_after job.path count
steps_on setting inner inside job (suc more) count pairs o =
    steps_turn setting inner inside (steps_on setting inner inside job more) job count pairs o
    (setting.body job (answers pairs))

abbrev pub steps_read : (Sheet → Stepping) → Result Sheet Fault → Stepping
steps_read steps (Ok sheet) = steps sheet
steps_read steps (Err fault) = no_steps

-- those in an evaluation with at most this many loads open inside it
unfoldable pub steps_within : Setting → ℕ → StepsIn
steps_within setting zero = λ o path text config. no_steps
steps_within setting (suc depth) = λ o path text config.
    steps_read (λ sheet. steps_on setting (fresh setting depth) (steps_within setting depth)
    (record { sheet = sheet; config = config; path = path }) (suc most_asked) 0 [] o) (setting.read path text)

-- those of the rest of an evaluation inside which so many loads may be open, where its body has these pairs behind it
-- and came to so many loads which opened bodies
abbrev pub steps_left : Setting → ℕ → Job → ℕ → List Pair → Outside → Stepping
steps_left setting depth job count pairs o =
    steps_on setting (fresh setting depth) (steps_within setting depth) job (suc most_asked - length pairs) count pairs o

-- those in the evaluation of a module whose path is open
abbrev pub steps_open : Setting → StepsIn
steps_open setting o path text config =
    steps_read (λ sheet. steps_left setting (room o.live) (record { sheet = sheet; config = config; path = path }) 0 [] o)
    (setting.read path text)

abbrev pub steps_entered : Setting → Enter → State → Stepping
steps_entered setting (Refused fault) s = no_steps
steps_entered setting (Open_entry path text) s = steps_open setting (record { live = s; hosts = [] }) path text []

abbrev pub steps_by : Setting → Enter × State → Stepping
steps_by setting p = steps_entered setting p.0 p.1

-- the steps of a compile of an entry of a folder with these load paths, without functions of a host, but its last one;
-- and how many steps ran each body
abbrev pub stepping : Setting → Files → List (List ℕ) → List ℕ → Stepping
stepping setting folder paths entry =
    steps_by setting (entered entry (entry_text folder entry) (nothing_loaded folder paths))

-- all steps of it
abbrev pub steps_of : Setting → Files → List (List ℕ) → List ℕ → List Step
steps_of setting folder paths entry = (stepping setting folder paths entry).steps ++ Ended ∷ []
