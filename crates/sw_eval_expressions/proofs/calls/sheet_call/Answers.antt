use Rattle.sw_eval_expressions.specs.Calls.{sheet_call}
use Rattle.sw_eval_questions.proofs.Steps.{did_err, did_then, did_plain}
use Rattle.sw_eval_questions.proofs.Refusals.{did_stopped}
use Rattle.sw_eval_expressions.proofs.calls.sheet_call.Goals as goal

pub returns-in_err-passed : goal.returns-in_err-passed
unfolding sheet_call
returns-in_err-passed g c =
    did_err _ (rw c.deeper.ensures at c.in_err-passed.ensures) c.from_residual.ensures

pub returns-in_err-entry : goal.returns-in_err-entry
unfolding sheet_call
returns-in_err-entry g c =
    did_then _ (rw c.deeper.ensures at c.in_ok-passed.ensures) (did_err _ (did_stopped _ _ _ c.arguments_of.new.walk.state _ _ c.function_entry.ensures c.in_err-entry.ensures) c.from_residual-in_err-entry.ensures)

pub returns-in_err-value : goal.returns-in_err-value
unfolding sheet_call
returns-in_err-value g c =
    did_then _ (rw c.deeper.ensures at c.in_ok-passed.ensures) (did_then _ (did_stopped _ _ _ c.arguments_of.new.walk.state _ _ c.function_entry.ensures c.in_ok-entry.ensures) (did_err _ (rw (c.as_slice.ensures, c.as_slice-2.ensures, c.get-callable.ensures) at c.in_err-value.ensures) c.from_residual-in_err-value.ensures))

pub returns : goal.returns
unfolding sheet_call
returns g c =
    did_then _ (rw c.deeper.ensures at c.in_ok-passed.ensures) (did_then _ (did_stopped _ _ _ c.arguments_of.new.walk.state _ _ c.function_entry.ensures c.in_ok-entry.ensures) (did_then _ (rw (c.as_slice.ensures, c.as_slice-2.ensures, c.get-callable.ensures) at c.in_ok-value.ensures) (did_plain _ c.enter.new.walk.state _ _ _ (c.given.ensures c.enter.new.walk.state))))
