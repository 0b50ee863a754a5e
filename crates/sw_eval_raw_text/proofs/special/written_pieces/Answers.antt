use Rattle.std.proofs.Common.{◌+◌, ◌≤◌, ◌∙◌, arith}
use Rattle.sw_eval_calls.proofs.Answering.{without_memory}
use Rattle.sw_eval_raw_text.proofs.Extremes.{written_next, written_refused, written_end, had_one}
use Rattle.sw_eval_raw_text.specs.Special.{had}
use Rattle.sw_eval_raw_text.proofs.special.written_pieces.Goals as goal

pub returns-in_err-text : goal.returns-in_err-text
returns-in_err-text c =
    rw c.all.invariant.rest (written_refused c.all.done c.args.all.now c.args.values.now c.all.one-index c.all.next c.one-item.result _ _ c.all-test.true c.one-item.is (rw c.value_at.ensures at c.in_err-text.ensures) c.from_residual.ensures)

pub returns-in_err-push : goal.returns-in_err-push
returns-in_err-push c = without_memory _ _ c.from_residual-in_err-push.ensures

pub all-preserved : goal.all-preserved
all-preserved c =
    let bound : had c.one-item.result c.all.next ≤ c.all.next + 1 = had_one c.one-item.result c.all.next in
    record {
      rest = rw (c.in_ok-push.ensures.ok, c.had-next.ensures) (c.all.invariant.rest ∙ written_next c.all.done c.args.all.now c.args.values.now c.all.one-index c.all.next c.one-item.result c.in_ok-text.text c.all-test.true c.one-item.is (rw c.value_at.ensures at c.in_ok-text.ensures));
      within = rw c.had-next.ensures (omega arith);
    }

pub returns : goal.returns
returns c =
    c.all.invariant.rest ∙ written_end c.all.done c.args.all.now c.args.values.now c.all.one-index c.all.next (omega arith)
