use Rattle.std.proofs.Common.{◌∙◌, arith}
use Rattle.sw_eval_calls.proofs.Answering.{without_memory}
use Rattle.sw_eval_calls.proofs.Arguments.{plain_next, plain_refused, plains_end}
use Rattle.sw_eval_calls.proofs.passing.plains.Goals as goal

pub returns-in_err-plain : goal.returns-in_err-plain
returns-in_err-plain c =
    rw c.values.invariant (plain_refused c.values.done c.args.values.now c.values.value-index c.value-item.result _ _ c.args.span.now c.values-test.true c.value-item.is c.in_err-plain.ensures c.from_residual.ensures)

pub returns-in_err-push : goal.returns-in_err-push
returns-in_err-push c = without_memory _ _ c.from_residual-in_err-push.ensures

pub values-preserved : goal.values-preserved
values-preserved c =
    rw c.in_ok-push.ensures.ok (c.values.invariant ∙ plain_next c.values.done c.args.values.now c.values.value-index c.value-item.result c.in_ok-plain.plain c.args.span.now c.values-test.true c.value-item.is c.in_ok-plain.ensures)

pub returns : goal.returns
returns c = c.values.invariant ∙ plains_end c.values.done c.args.values.now c.values.value-index c.args.span.now (omega arith)
