use Rattle.std.proofs.Common.{◌∙◌, arith}
use Rattle.sw_eval_calls.proofs.Answering.{without_memory}
use Rattle.sw_eval_state.proofs.Parents.{complex_next, complex_refused, complexes_end}
use Rattle.sw_eval_state.proofs.selecting.complexes_of.Goals as goal

pub returns-in_err-complex : goal.returns-in_err-complex
returns-in_err-complex c =
    rw c.all.invariant (complex_refused c.all.done c.args.all.now c.all.texts-index c.texts-item.result _ _ c.args.span.now c.all-test.true c.texts-item.is (rw c.as_slice.ensures at c.in_err-complex.ensures) c.from_residual.ensures)

pub returns-in_err-push : goal.returns-in_err-push
returns-in_err-push c = without_memory _ _ c.from_residual-in_err-push.ensures

pub all-preserved : goal.all-preserved
all-preserved c =
    rw c.in_ok-push.ensures.ok (c.all.invariant ∙ complex_next c.all.done c.args.all.now c.all.texts-index c.texts-item.result c.in_ok-complex.complex c.args.span.now c.all-test.true c.texts-item.is (rw c.as_slice.ensures at c.in_ok-complex.ensures))

pub returns : goal.returns
returns c =
    c.all.invariant ∙ complexes_end c.all.done c.args.all.now c.all.texts-index c.args.span.now (omega arith)
