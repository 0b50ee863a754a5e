use Rattle.std.proofs.Common.{◌∙◌, arith}
use Rattle.sw_eval_calls.proofs.Answering.{without_memory}
use Rattle.sw_eval_state.proofs.Parents.{word_next, word_refused, words_end}
use Rattle.sw_eval_state.proofs.selecting.words_of.Goals as goal

pub returns-in_err-share : goal.returns-in_err-share
returns-in_err-share c = without_memory _ _ c.from_residual.ensures

pub returns-in_err-word : goal.returns-in_err-word
returns-in_err-word c =
    rw c.texts.invariant (word_refused c.texts.done c.args.texts.now c.texts.text-index c.text-item.result _ _ c.args.span.now c.texts-test.true c.text-item.is (rw c.in_ok-share.ensures at c.in_err-word.ensures) c.from_residual-in_err-word.ensures)

pub returns-in_err-push : goal.returns-in_err-push
returns-in_err-push c = without_memory _ _ c.from_residual-in_err-push.ensures

pub texts-preserved : goal.texts-preserved
texts-preserved c =
    rw c.in_ok-push.ensures.ok (c.texts.invariant ∙ word_next c.texts.done c.args.texts.now c.texts.text-index c.text-item.result c.in_ok-word.word c.args.span.now c.texts-test.true c.text-item.is (rw c.in_ok-share.ensures at c.in_ok-word.ensures))

pub returns : goal.returns
returns c =
    c.texts.invariant ∙ words_end c.texts.done c.args.texts.now c.texts.text-index c.args.span.now (omega arith)
