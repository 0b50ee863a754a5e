-- Values for which a variable gives up what it holds (this project's own): the right side of its assignment may make
-- grow what nobody else holds.
use Rattle.std.specs.Prelude.{◌≡◌, List, ℕ, Result, Ok, Err}
use Rattle.sw_values.specs.declared.plain.Plain.{Plain}
use Rattle.sw_values.specs.declared.plain.Plain.TheVariants as N
use Rattle.sw_world.specs.declared.question.Question.{Question}
use Rattle.sw_world.specs.declared.answer.Answer.{Answer}
use Rattle.sw_eval_questions.specs.Did.{Did, stand}
use Rattle.sw_eval_questions.specs.declared.stop.Stop.{Stop}
use Rattle.sw_eval_state.specs.Eval.{Eval}
use Rattle.sw_eval_state.specs.Scope.{set_by}
use Rattle.sw_eval_state.specs.declared.state.State.{State}
use Rattle.sw_eval_walk.specs.declared.walk.Walk.{Walk}

-- the variable has given up what it held
abbrev pub given_up : State → List ℕ → State
given_up s name = set_by s (name, N.Null)

-- where a value was made, the variable gave up what it held behind it
abbrev pub IsLeft : List ℕ → Result Plain Stop → State → State → Type 0
IsLeft name (Ok value) made left = left ≡ given_up made name
IsLeft name (Err stop) made left = Unit {0}

-- the walk went on with an evaluation from its state, and the variable gave up what it held
pub record Gave_up {W : Type 0} (gives : W → Question → Answer → W → Type 0) (name : List ℕ) (e : Eval Plain) (a : Walk)
    (w : W) (r : Result Plain Stop) (b : Walk) (x : W) : Type 0 where
  pub made : State
  pub went : Did gives (e a.state) (stand a.asked) w r made (stand b.asked) x
  pub left : IsLeft name r made b.state
