use Rattle.std.proofs.Common.{◌∙◌, arith}
use Rattle.sw_eval_calls.proofs.Answering.{without_memory}
use Rattle.sw_eval_calls.proofs.Written.{text_next, text_refused, texts_end}
use Rattle.sw_eval_calls.proofs.css_calls.argument_texts.Goals as goal

pub returns-in_err-text : goal.returns-in_err-text
returns-in_err-text c =
    rw c.values.invariant (text_refused c.values.done c.args.values.now c.values.value-index c.value-item.result _ _ c.args.span.now c.values-test.true c.value-item.is c.in_err-text.ensures c.from_residual.ensures)

pub returns-in_err-add_comma : goal.returns-in_err-add_comma
returns-in_err-add_comma c = without_memory _ _ c.from_residual-in_err-add_comma.ensures

pub returns-in_err-push : goal.returns-in_err-push
returns-in_err-push c = without_memory _ _ c.from_residual-in_err-push.ensures

pub values-preserved : goal.values-preserved
values-preserved c =
    rw c.in_ok-push.ensures.ok (c.values.invariant ∙ text_next c.values.done _ c.args.values.now c.values.value-index c.value-item.result c.in_ok-text.text c.args.span.now c.values-test.true c.value-item.is c.in_ok-text.ensures c.in_ok-add_comma.ensures)

pub returns : goal.returns
returns c = c.values.invariant ∙ texts_end c.values.done c.args.values.now c.values.value-index c.args.span.now (omega arith)
