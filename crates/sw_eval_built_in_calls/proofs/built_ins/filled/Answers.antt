use Rattle.std.proofs.Common.{◌∙◌, arith}
use Rattle.sw_eval_calls.proofs.Answering.{without_memory}
use Rattle.sw_eval_built_in_calls.proofs.Filled.{slot_next, slot_refused, slots_end}
use Rattle.sw_eval_built_in_calls.proofs.built_ins.filled.Goals as goal

pub returns-in_err-value : goal.returns-in_err-value
returns-in_err-value c =
    rw c.slots.invariant (slot_refused c.slots.done c.args.params.now c.args.slots.now c.slots.one-index c.one-item.result _ _ c.args.span.now c.slots-test.true c.one-item.is c.in_err-value.ensures c.from_residual.ensures)

pub returns-in_err-name : goal.returns-in_err-name
returns-in_err-name c = without_memory _ _ c.from_residual-in_err-name.ensures

pub returns-in_err-push : goal.returns-in_err-push
returns-in_err-push c = without_memory _ _ c.from_residual-in_err-push.ensures

pub slots-preserved : goal.slots-preserved
slots-preserved c =
    rw (c.in_ok-push.ensures.ok, c.in_ok-name.ensures) (c.slots.invariant ∙ slot_next c.slots.done c.args.params.now c.args.slots.now c.slots.one-index c.one-item.result c.in_ok-value.value c.args.span.now c.slots-test.true c.one-item.is c.in_ok-value.ensures)

pub returns : goal.returns
returns c = c.slots.invariant ∙ slots_end c.slots.done c.args.params.now c.args.slots.now c.slots.one-index c.args.span.now (omega arith)
