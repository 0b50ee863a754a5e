-- Values where they stand: at the right of an assignment whose variable gives up what it holds, or elsewhere (this
-- project's own).
use Rattle.std.specs.Prelude.{ℕ, Result}
use Rattle.sw_tree.specs.declared.expr.Expr.{Expr}
use Rattle.sw_values.specs.declared.plain.Plain.{Plain}
use Rattle.sw_eval_literals.specs.declared.quotients.Parens.TheVariants as P
use Rattle.sw_world.specs.declared.question.Question.{Question}
use Rattle.sw_world.specs.declared.answer.Answer.{Answer}
use Rattle.sw_eval_questions.specs.declared.stop.Stop.{Stop}
use Rattle.sw_eval_walk.specs.declared.walk.Walk.{Walk}
use Rattle.sw_eval_walk.specs.Going.{Goes_on}
use Rattle.sw_eval_expressions.specs.Growing.{Gave_up}
use Rattle.sw_eval.specs.Means.{value_to}
use Rattle.sw_eval.specs.declared.growing.ValuePlace.{ValuePlace}
use Rattle.sw_eval.specs.declared.growing.ValuePlace.TheVariants as V

-- the walk went on with the value of an expression that is nested no deeper than the number; a variable that it is
-- assigned to gave up what it held
abbrev pub Went : {W : Type 0} → (W → Question → Answer → W → Type 0) → ValuePlace → ℕ → Expr → Walk → W → Result Plain Stop
    → Walk → W → Type 0
Went gives (V.Within parens) depth e a w r b x = Goes_on gives (value_to depth parens e) a w r b x
Went gives (V.Assigned name) depth e a w r b x = Gave_up gives name.now (value_to depth P.Outside e) a w r b x
