use Rattle.sw_eval_expressions.specs.Expressions.{signed}
use Rattle.sw_eval_questions.proofs.Steps.{did_err, did_then}
use Rattle.sw_eval_questions.proofs.Refusals.{did_stopped}
use Rattle.sw_eval_expressions.proofs.value.signed.Goals as goal

pub returns-in_err-value : goal.returns-in_err-value
unfolding signed
returns-in_err-value g c =
    did_err _ (rw c.deeper.ensures at c.in_err-value.ensures) c.from_residual.ensures

pub returns : goal.returns
unfolding signed
returns g c =
    did_then _ (rw c.deeper.ensures at c.in_ok-value.ensures) (did_stopped _ _ _ c.value_of.new.walk.state _ _ c.prefixed.ensures c.stopped.ensures)
