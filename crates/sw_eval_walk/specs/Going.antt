-- What a method of the walk ensures, and what it asks by name.
use Rattle.std.specs.Prelude.{ℕ, List, Option, Result}
use Rattle.sw_text.specs.declared.place.Span.{Span}
use Rattle.sw_tree.specs.declared.callable.Kind.{Kind}
use Rattle.sw_world.specs.declared.question.Question.{Question}
use Rattle.sw_world.specs.declared.answer.Answer.{Answer}
use Rattle.sw_eval_questions.specs.Talk.{Finds}
use Rattle.sw_eval_questions.specs.Did.{Did, stand}
use Rattle.sw_eval_questions.specs.Asking.{asking}
use Rattle.sw_eval_questions.specs.declared.stop.Stop.{Stop}
use Rattle.sw_eval_state.specs.Eval.{Eval}
use Rattle.sw_eval_walk.specs.declared.walk.Walk.{Walk}

-- the walk went on with an evaluation from its state
abbrev pub Goes_on : {W A : Type 0} → (W → Question → Answer → W → Type 0) → Eval A → Walk → W → Result A Stop → Walk → W
    → Type 0
Goes_on gives e a w r b x = Did gives (e a.state) (stand a.asked) w r b.state (stand b.asked) x

-- what a name means in the module whose code runs
unfoldable pub finding : Option (List ℕ) → Kind → List ℕ → Span → Eval (ℕ × Answer)
finding space kind name span s = asking (Finds s.here.site space kind name) span s
