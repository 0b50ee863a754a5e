use Rattle.sw_eval_expressions.specs.Functions.{css_called}
use Rattle.sw_eval_questions.proofs.Steps.{did_err, did_then}
use Rattle.sw_eval_expressions.proofs.functions.css_called.Goals as goal

pub returns-in_err-name : goal.returns-in_err-name
unfolding css_called
returns-in_err-name g c =
    did_err _ c.in_err-name.ensures c.from_residual.ensures

pub returns-in_err-values : goal.returns-in_err-values
unfolding css_called
returns-in_err-values g c =
    did_then _ c.in_ok-name.ensures (did_err _ (rw c.deeper.ensures at c.in_err-values.ensures) c.from_residual-in_err-values.ensures)

pub returns : goal.returns
unfolding css_called
returns g c =
    did_then _ c.in_ok-name.ensures (did_then _ (rw c.deeper.ensures at c.in_ok-values.ensures) (rw c.as_slice.ensures at c.css_with.ensures))
