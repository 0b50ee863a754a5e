use Rattle.sw_eval_calls.proofs.Arguments.{bound_ok, bound_faulty, bound_heavy}
use Rattle.sw_eval_calls.proofs.passing.bound_by.Goals as goal

pub returns-in-Ok : goal.returns-in-Ok
returns-in-Ok c = bound_ok c.args.params.now c.args.passed.now _ c.args.span.now c.in-Ok.ensures

pub returns-in-Err-ArgumentFault : goal.returns-in-Err-ArgumentFault
returns-in-Err-ArgumentFault c =
    rw (bound_faulty c.args.params.now c.args.passed.now c.args.span.now (rw c.in-Err-ArgumentFault.field-0-is at c.in-Err-ArgumentFault.ensures)) c.fails.ensures

pub returns-in-Err-TooLarge : goal.returns-in-Err-TooLarge
returns-in-Err-TooLarge c =
    rw (bound_heavy c.args.params.now c.args.passed.now c.args.span.now (rw c.in-Err-TooLarge.field-0-is at c.in-Err-TooLarge.ensures)) c.fails-in-Err-TooLarge.ensures
