use Rattle.sw_eval_calls.specs.CssCalls.{css_call}
use Rattle.sw_eval_calls.proofs.Answering.{without_memory}
use Rattle.sw_eval_calls.proofs.css_calls.css_call.Goals as goal

pub returns-in_err-passed : goal.returns-in_err-passed
returns-in_err-passed c = without_memory _ _ c.from_residual.ensures

pub returns : goal.returns
unfolding css_call
returns c = c.at_argument.ensures _ (rw (c.as_slice.ensures, c.in_ok-passed.ensures) at c.written_call-written.ensures)
