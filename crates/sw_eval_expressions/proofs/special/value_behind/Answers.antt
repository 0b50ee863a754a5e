use Rattle.sw_eval_expressions.specs.Special.{value_behind}
use Rattle.sw_eval_questions.proofs.Steps.{did_value, did_err, did_then, no_memory}
use Rattle.sw_eval_expressions.proofs.special.value_behind.Goals as goal

pub returns-in_err-value : goal.returns-in_err-value
unfolding value_behind
returns-in_err-value g c =
    did_err _ (rw c.deeper.ensures at c.in_err-value.ensures) c.from_residual.ensures

pub returns-in_err-push : goal.returns-in_err-push
unfolding value_behind
returns-in_err-push g c =
    did_then _ (rw c.deeper.ensures at c.in_ok-value.ensures) (no_memory _ _ _ _ _ c.from_residual-in_err-push.ensures)

pub returns : goal.returns
unfolding value_behind
returns g c =
    did_then _ (rw c.deeper.ensures at c.in_ok-value.ensures) (rw c.in_ok-push.ensures.ok (did_value _ _ _ _))
