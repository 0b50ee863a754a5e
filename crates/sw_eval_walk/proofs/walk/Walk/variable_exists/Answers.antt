use Rattle.std.proofs.Common.{sym, ◌∙◌}
use Rattle.sw_eval_walk.specs.Existence.{variable_exists}
use Rattle.sw_eval_questions.proofs.Steps.{did_value}
use Rattle.sw_eval_questions.proofs.Choices.{did_yes, did_no}
use Rattle.sw_eval_walk.proofs.walk.Walk.variable_exists.Goals as goal

pub returns-then-sees : goal.returns-then-sees
unfolding variable_exists
returns-then-sees g c =
    did_yes _ _ _ (sym c.sees.ensures ∙ c.if-sees.true) (did_value _ c.args.self.now.state _ _)

pub returns : goal.returns
unfolding variable_exists
returns g c =
    did_no _ _ _ (sym c.sees.ensures ∙ c.if-sees.false) c.exists.ensures
