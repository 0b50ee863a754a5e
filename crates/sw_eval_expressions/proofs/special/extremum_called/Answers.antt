use Rattle.sw_eval_expressions.specs.Special.{extremum_called}
use Rattle.sw_eval_questions.proofs.Steps.{did_err, did_then}
use Rattle.sw_eval_questions.proofs.Refusals.{did_stopped}
use Rattle.sw_eval_expressions.proofs.special.extremum_called.Goals as goal

pub returns-in_err-values : goal.returns-in_err-values
unfolding extremum_called
returns-in_err-values g c =
    did_err _ c.in_err-values.ensures c.from_residual.ensures

pub returns : goal.returns
unfolding extremum_called
returns g c =
    did_then _ c.in_ok-values.ensures (did_stopped _ _ _ c.piece_values.new.walk.state _ _ (rw c.as_slice.ensures at c.extremum_value.ensures) c.stopped.ensures)
