use Rattle.sw_eval_calls.specs.CssCalls.{written_call}
use Rattle.sw_eval_calls.proofs.Answering.{refused_then, without_memory}
use Rattle.sw_eval_calls.proofs.css_calls.written_call.Goals as goal

pub returns-in_err-arguments : goal.returns-in_err-arguments
unfolding written_call
returns-in_err-arguments c = refused_then _ _ _ _ c.in_err-arguments.ensures c.from_residual.ensures

pub returns-in_err-pieces : goal.returns-in_err-pieces
returns-in_err-pieces c = without_memory _ _ c.from_residual-in_err-pieces.ensures

pub returns-in_err-text : goal.returns-in_err-text
unfolding written_call
returns-in_err-text c =
    rw (c.in_ok-arguments.ensures, ← c.as_slice.ensures, ← c.in_ok-pieces.ensures, ← c.as_slice-2.ensures) (refused_then _ _ _ _ c.in_err-text.ensures c.from_residual-in_err-text.ensures)

pub returns : goal.returns
unfolding written_call
returns c =
    rw (c.in_ok-arguments.ensures, ← c.as_slice.ensures, ← c.in_ok-pieces.ensures, ← c.as_slice-2.ensures, c.in_ok-text.ensures) c.string_value.ensures
