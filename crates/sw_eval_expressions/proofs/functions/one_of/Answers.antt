use Rattle.sw_eval_expressions.specs.Functions.{one_of}
use Rattle.sw_eval_questions.proofs.Steps.{did_err, did_then}
use Rattle.sw_eval_questions.proofs.Refusals.{did_stopped}
use Rattle.sw_eval_expressions.proofs.functions.one_of.Goals as goal

pub returns-in_err-value : goal.returns-in_err-value
unfolding one_of
returns-in_err-value g c =
    did_err _ (rw c.one_by.ensures at c.in_err-value.ensures) c.from_residual.ensures

pub returns : goal.returns
unfolding one_of
returns g c =
    did_then _ (rw c.one_by.ensures at c.in_ok-value.ensures) (did_stopped _ _ _ c.value_of.new.walk.state _ _ c.into_plain_at.ensures c.stopped.ensures)
