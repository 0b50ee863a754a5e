use Rattle.sw_eval_built_in_calls.specs.BuiltIns.{built_in_value}
use Rattle.sw_eval_calls.proofs.Answering.{refused_then}
use Rattle.sw_eval_built_in_calls.proofs.built_ins.built_in_value.Goals as goal

pub returns-in_err-arguments : goal.returns-in_err-arguments
unfolding built_in_value
returns-in_err-arguments c = refused_then _ _ _ _ c.in_err-arguments.ensures c.from_residual.ensures

pub returns-in_err-value : goal.returns-in_err-value
unfolding built_in_value
returns-in_err-value c =
    rw c.in_ok-arguments.ensures (refused_then _ _ _ _ (c.in_err-value.ensures _ (rw c.as_slice.ensures at c.call.ensures)) c.from_residual-in_err-value.ensures)

pub returns : goal.returns
unfolding built_in_value
returns c =
    rw (c.in_ok-arguments.ensures, c.in_ok-value.ensures _ (rw c.as_slice.ensures at c.call.ensures)) c.into_plain_at.ensures
