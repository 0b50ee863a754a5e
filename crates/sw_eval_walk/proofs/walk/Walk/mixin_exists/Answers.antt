use Rattle.std.proofs.Common.{sym, ◌∙◌}
use Rattle.sw_eval_walk.specs.Existence.{mixin_exists}
use Rattle.sw_eval_questions.proofs.Steps.{did_value}
use Rattle.sw_eval_questions.proofs.Choices.{did_yes, did_no}
use Rattle.sw_eval_walk.proofs.walk.Walk.mixin_exists.Goals as goal

pub returns-then-sees_mixin : goal.returns-then-sees_mixin
unfolding mixin_exists
returns-then-sees_mixin g c =
    did_yes _ _ _ (sym c.sees_mixin.ensures ∙ c.if-sees_mixin.true) (did_value _ c.args.self.now.state _ _)

pub returns : goal.returns
unfolding mixin_exists
returns g c =
    did_no _ _ _ (sym c.sees_mixin.ensures ∙ c.if-sees_mixin.false) c.exists.ensures
