use Rattle.sw_eval_built_in_calls.specs.BuiltIns.{built_in_arguments}
use Rattle.sw_eval_calls.proofs.Answering.{refused_then, without_memory}
use Rattle.sw_eval_built_in_calls.proofs.built_ins.built_in_arguments.Goals as goal

pub returns-in_err-plain : goal.returns-in_err-plain
unfolding built_in_arguments
returns-in_err-plain c = refused_then _ _ _ _ c.in_err-plain.ensures c.from_residual.ensures

pub returns-in_err-names : goal.returns-in_err-names
returns-in_err-names c = without_memory _ _ c.from_residual-in_err-names.ensures

pub returns-in_err-params : goal.returns-in_err-params
returns-in_err-params c = without_memory _ _ c.from_residual-in_err-params.ensures

pub returns-in_err-slots : goal.returns-in_err-slots
unfolding built_in_arguments
returns-in_err-slots c =
    rw (c.in_ok-plain.ensures, ← (rw c.as_slice.ensures at c.in_ok-names.ensures), ← c.len.ensures, ← (rw c.as_slice-2.ensures at c.in_ok-params.ensures)) (refused_then _ _ _ _ c.in_err-slots.ensures c.from_residual-in_err-slots.ensures)

pub returns : goal.returns
unfolding built_in_arguments
returns c =
    rw (c.in_ok-plain.ensures, ← (rw c.as_slice.ensures at c.in_ok-names.ensures), ← c.len.ensures, ← (rw c.as_slice-2.ensures at c.in_ok-params.ensures), c.in_ok-slots.ensures) (rw (c.as_slice-3.ensures, c.as_slice-4.ensures) at c.filled.ensures)
