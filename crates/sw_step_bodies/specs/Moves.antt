-- What the moves of a compile do.
use Rattle.std.specs.Prelude.{◌≡◌, ◌<◌, ◌≤◌, ℕ, suc, ◌+◌, List, [], ◌∷◌, ◌++◌, length, Option, None, Some, Result, Ok, Err}
use Rattle.sw_text.specs.declared.fault.Fault.{Fault}
use Rattle.sw_tree.specs.declared.sheet.Sheet.{Sheet}
use Rattle.sw_values.specs.declared.plain.Plain.{Plain}
use Rattle.sw_world.specs.declared.question.Question.{Question}
use Rattle.sw_world.specs.declared.answer.Answer.{Answer}
use Rattle.sw_world.specs.declared.end.End.{End}
use Rattle.sw_world.specs.declared.end.End.TheVariants.{Fault as Fault_end}
use Rattle.sw_world.specs.Body.{BodyOf}
use Rattle.sw_world.specs.Progress.{Progress}
use Rattle.sw_modules.specs.declared.live.Begin.TheVariants.{Open}
use Rattle.sw_modules.specs.State.{State, open_at, path_in}
use Rattle.sw_modules.specs.Loads.{begun, ended_by, AnswersLoad}
use Rattle.sw_modules.specs.Fresh.{Setting, responds, fresh, room}
use Rattle.sw_step_bodies.specs.declared.loading.Loaded.{Loaded}
use Rattle.sw_step_bodies.specs.declared.loading.Loaded.TheVariants.{Answered, Opens}
use Rattle.sw_step_bodies.specs.declared.loading.Reading.{Reading}
use Rattle.sw_step_bodies.specs.declared.loading.Reading.TheVariants.{Read, Unread}
use Rattle.sw_step_bodies.specs.declared.going.Came.{Came}
use Rattle.sw_step_bodies.specs.declared.going.Came.TheVariants as C
use Rattle.sw_step_bodies.specs.Steps.{last_ended}
use Rattle.sw_step_bodies.specs.Stepping.{Loading, Finished, steps_within, opened_for}
use Rattle.sw_step_bodies.specs.Standing.{Standing, Later, Waits, Moment, left_open, left_at, outside_of, behind}
use Rattle.sw_step_bodies.specs.Bodies.{Inner, IsEnding}

-- a body goes on from where it stood, and what is left stays
pub record IsOn (setting : Setting) (b c : Standing) (old now : State) : Type 0 where
  pub same_job : c.job ≡ b.job
  pub same_count : c.count ≡ b.count
  pub longer : length b.pairs ≤ length c.pairs
  pub left : (depth : ℕ) (later : Later) (times : List (List ℕ × ℕ))
      → left_open setting depth later b times (outside_of old) ≡ left_open setting depth later c times (outside_of now)
  pub same_depth : length now.opened ≡ length old.opened
  pub same_folder : now.folder ≡ old.folder

-- a body went on, whether or not memory ran out
pub record WentOn (setting : Setting) (p q : Progress) (old now : State) : Type 0 where
  pub same_job : q.job ≡ p.job
  pub on : (count : ℕ) → IsOn setting (record { job = p.job; count = count; pairs = p.seen ++ p.left })
      (record { job = p.job; count = count; pairs = q.seen ++ q.left }) old now

-- it came to a load or to its end
abbrev pub Reaches : BodyOf → Inner → Option End → Type 0
Reaches next i None = (op : Question) × (i.asks ≡ Some op)
Reaches next i (Some end) = IsEnding next i.standing end

-- the body that ended, where one did
abbrev pub ran_at : Option End → List ℕ → List (List ℕ)
ran_at None path = []
ran_at (Some end) path = path ∷ []

-- the body that ended when a compile came so far
abbrev pub ended_at : Came → List (List ℕ × ℕ) → List (List ℕ)
ended_at (C.Loading body opened) times = []
ended_at (C.Finished body) times = body ∷ []
ended_at (C.Over outcome) times = last_ended times

-- a load is answered so, and no body is opened for it
pub record IsAnswered (setting : Setting) (op : Question) (answer : Answer) (old now : State) : Type 0 where
  pub kind : AnswersLoad answer
  pub responds : (depth : ℕ) → depth ≡ room old → responds setting.functions (fresh setting depth) op (outside_of old)
      ≡ record { answer = answer; outside = outside_of now; runs = [] }
  pub opens_none : (depth : ℕ) → opened_for setting (steps_within setting depth) op (outside_of old) ≡ None
  pub same_depth : length now.opened ≡ length old.opened
  pub same_folder : now.folder ≡ old.folder

-- a body is opened for it
pub record IsOpened (setting : Setting) (op : Question) (path : List ℕ) (sheet : Sheet) (config : List (List ℕ × Plain))
    (old now : State) : Type 0 where
  pub text : List ℕ
  pub begins : begun op old ≡ (Open path text config, now)
  pub reads : setting.read path text ≡ Ok sheet
  pub few : length old.opened < 64
  pub opens : now ≡ open_at path old

abbrev pub DidLoad : Setting → Question → Loaded → State → State → Type 0
DidLoad setting op (Answered answer) old now = IsAnswered setting op answer old now
DidLoad setting op (Opens work opened) old now =
    (work.loads ≡ 0) × (opened ≡ work.path) × IsOpened setting op work.path work.sheet work.config old now

-- the text of the innermost open load reads, or the load is answered with its fault
abbrev pub IsRead : (List ℕ → List ℕ → Result Sheet Fault) → List ℕ → List ℕ → Question → Reading → State → State → Type 0
IsRead reads path text op (Read sheet opened) old now = (reads path text ≡ Ok sheet) × (opened ≡ path) × (now ≡ old)
IsRead reads path text op (Unread answer) old now =
    (fault : Fault) × (reads path text ≡ Err fault)
    × (ended_by op (path_in old.opened) (Fault_end fault) old ≡ (answer, now)) × AnswersLoad answer
    × (length now.opened + 1 ≡ length old.opened)

-- one load is open for each body
abbrev pub IsDeep : State → List Waits → Type 0
IsDeep live waits = length live.opened ≡ suc (length waits)

abbrev pub moment_of : State → List Waits → Inner → List (List ℕ × ℕ) → Moment
moment_of live waits inner times = record { live = live; waits = waits; inner = inner.standing; times = times }

-- a compile came to its next step, or the body of its entry ended
abbrev pub Comes : Setting → Came → Moment → Moment → Type 0
Comes setting (C.Loading body opened) old now =
    left_at setting old ≡ behind (Loading body opened ∷ []) (left_at setting now)
Comes setting (C.Finished body) old now = left_at setting old ≡ behind (Finished body ∷ []) (left_at setting now)
Comes setting (C.Over outcome) old now =
    left_at setting old
    ≡ record { steps = []; reply = record { says = now.live.says; times = now.times; outcome = outcome } }

-- its load was answered, or it came to the step that opens a body for it
abbrev pub DidAnswer : Setting → Option Came → Moment → Moment → Type 0
DidAnswer setting None old now =
    (left_at setting now ≡ left_at setting old) × (length old.inner.pairs < length now.inner.pairs)
DidAnswer setting (Some came) old now = Comes setting came old now × (ended_at came now.times ≡ [])
