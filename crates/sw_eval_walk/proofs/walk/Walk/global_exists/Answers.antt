use Rattle.std.proofs.Common.{sym, ◌∙◌}
use Rattle.sw_eval_walk.specs.Existence.{global_exists}
use Rattle.sw_eval_questions.proofs.Steps.{did_value}
use Rattle.sw_eval_questions.proofs.Choices.{did_yes, did_no}
use Rattle.sw_eval_walk.proofs.walk.Walk.global_exists.Goals as goal

pub returns-then-sees_top : goal.returns-then-sees_top
unfolding global_exists
returns-then-sees_top g c =
    did_yes _ _ _ (sym c.sees_top.ensures ∙ c.if-sees_top.true) (did_value _ c.args.self.now.state _ _)

pub returns : goal.returns
unfolding global_exists
returns g c =
    did_no _ _ _ (sym c.sees_top.ensures ∙ c.if-sees_top.false) c.exists.ensures
