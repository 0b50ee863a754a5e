use Rattle.std.proofs.Common.{◌∙◌, sym}
use Rattle.sw_eval_expressions.specs.Expressions.{linked}
use Rattle.sw_eval_questions.proofs.Steps.{did_value, did_err, did_then}
use Rattle.sw_eval_questions.proofs.Choices.{did_yes, did_no}
use Rattle.sw_eval_questions.proofs.Refusals.{did_answer, did_refused, did_stopped}
use Rattle.sw_eval_expressions.proofs.Changed.{changed_err, changed_stopped}
use Rattle.sw_eval_expressions.proofs.value.linked.Goals as goal

pub returns-in_err-take : goal.returns-in_err-take
unfolding linked
returns-in_err-take g c =
    did_refused _ _ _ _ c.args.walk.now.state _ _ c.in_err-take.ensures (changed_err _ _ _ c.from_residual.ensures)

pub returns-then-not-needs_right : goal.returns-then-not-needs_right
unfolding linked
returns-then-not-needs_right g c =
    did_then _ (did_answer _ _ c.args.walk.now.state _ _ c.in_ok-take.ensures) (did_no _ _ _ (sym c.needs_right.ensures ∙ c.if-not-needs_right.true) (did_value _ c.args.walk.now.state _ _))

pub returns-in_err-right : goal.returns-in_err-right
unfolding linked
returns-in_err-right g c =
    did_then _ (did_answer _ _ c.args.walk.now.state _ _ c.in_ok-take.ensures) (did_yes _ _ _ (sym c.needs_right.ensures ∙ c.if-not-needs_right.false) (did_err _ (rw c.deeper.ensures at c.in_err-right.ensures) (changed_err _ _ _ c.from_residual-in_err-right.ensures)))

pub returns : goal.returns
unfolding linked
returns g c =
    did_then _ (did_answer _ _ c.args.walk.now.state _ _ c.in_ok-take.ensures) (did_yes _ _ _ (sym c.needs_right.ensures ∙ c.if-not-needs_right.false) (did_then _ (rw c.deeper.ensures at c.in_ok-right.ensures) (did_stopped _ _ _ c.value_of.new.walk.state _ _ c.join.ensures (changed_stopped _ _ _ c.stopped.ensures))))
