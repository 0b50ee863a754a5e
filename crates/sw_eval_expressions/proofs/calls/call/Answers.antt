use Rattle.sw_eval_expressions.specs.Calls.{call_value}
use Rattle.sw_eval_questions.proofs.Steps.{did_err, did_then}
use Rattle.sw_eval_expressions.proofs.calls.call.Goals as goal

pub returns-in_err-called : goal.returns-in_err-called
unfolding call_value
returns-in_err-called g c =
    did_err _ c.in_err-called.ensures c.from_residual.ensures

pub returns : goal.returns
unfolding call_value
returns g c =
    did_then _ c.in_ok-called.ensures c.call_by.ensures
