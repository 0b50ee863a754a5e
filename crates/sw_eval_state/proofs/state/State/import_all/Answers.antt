use Rattle.std.proofs.Common.{sym, ◌∙◌, arith}
use Rattle.sw_eval_state.proofs.Answering.{out_of_memory}
use Rattle.sw_eval_state.proofs.ImportLines.{line_next, line_err, line_end}
use Rattle.sw_eval_state.proofs.state.State.import_all.Goals as goal

pub returns-in_err-text : goal.returns-in_err-text
returns-in_err-text c = out_of_memory _ _ _ c.from_residual.ensures

pub returns-in_err-import_one : goal.returns-in_err-import_one
returns-in_err-import_one c =
    rw (← c.texts.invariant) (line_err c.args.texts.now c.texts.one-index c.one-item.result c.args.span.now c.texts.self _ _ _ c.texts-test.true c.one-item.is (rw c.in_ok-text.ensures at c.in_err-import_one.ensures) c.from_residual-in_err-import_one.ensures)

pub texts-preserved : goal.texts-preserved
texts-preserved c =
    line_next c.args.texts.now c.texts.one-index c.one-item.result c.args.span.now c.texts.self _ c.texts-test.true c.one-item.is (rw c.in_ok-text.ensures at c.in_ok-import_one.ensures) ∙ c.texts.invariant

pub returns : goal.returns
returns c =
    sym c.texts.invariant ∙ line_end c.args.texts.now c.texts.one-index c.args.span.now c.texts.self (omega arith)
