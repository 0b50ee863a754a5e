use Rattle.std.proofs.Common.{◌∙◌, arith}
use Rattle.sw_eval_calls.proofs.Answering.{without_memory}
use Rattle.sw_eval_calls.proofs.Arguments.{named_next, named_refused, named_end}
use Rattle.sw_eval_calls.proofs.passing.plain_named.Goals as goal

pub returns-in_err-plain : goal.returns-in_err-plain
returns-in_err-plain c =
    rw c.named.invariant (named_refused c.named.done c.args.named.now c.named.one-index c.one-item.result _ _ c.args.span.now c.named-test.true c.one-item.is c.in_err-plain.ensures c.from_residual.ensures)

pub returns-in_err-name : goal.returns-in_err-name
returns-in_err-name c = without_memory _ _ c.from_residual-in_err-name.ensures

pub returns-in_err-push : goal.returns-in_err-push
returns-in_err-push c = without_memory _ _ c.from_residual-in_err-push.ensures

pub named-preserved : goal.named-preserved
named-preserved c =
    rw (c.in_ok-push.ensures.ok, c.in_ok-name.ensures) (c.named.invariant ∙ named_next c.named.done c.args.named.now c.named.one-index c.one-item.result c.in_ok-plain.plain c.args.span.now c.named-test.true c.one-item.is c.in_ok-plain.ensures)

pub returns : goal.returns
returns c = c.named.invariant ∙ named_end c.named.done c.args.named.now c.named.one-index c.args.span.now (omega arith)
