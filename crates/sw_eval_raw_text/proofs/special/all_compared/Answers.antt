use Rattle.std.proofs.Common.{◌+◌, ◌≤◌, ◌∙◌, arith}
use Rattle.sw_eval_raw_text.proofs.Extremes.{compared_next, compared_refused, compared_end, had_one}
use Rattle.sw_eval_raw_text.specs.Special.{had}
use Rattle.sw_eval_raw_text.proofs.special.all_compared.Goals as goal

pub returns-in_err-done : goal.returns-in_err-done
returns-in_err-done c =
    rw c.all.invariant.rest (compared_refused c.all.done c.args.all.now c.args.values.now c.all.one-index c.all.next c.one-item.result _ _ c.all-test.true c.one-item.is (rw c.value_at.ensures at c.in_err-done.ensures) c.from_residual.ensures)

pub all-preserved : goal.all-preserved
all-preserved c =
    let bound : had c.one-item.result c.all.next ≤ c.all.next + 1 = had_one c.one-item.result c.all.next in
    record {
      rest = rw c.had-next.ensures (c.all.invariant.rest ∙ compared_next c.all.done c.in_ok-done.done c.args.all.now c.args.values.now c.all.one-index c.all.next c.one-item.result c.all-test.true c.one-item.is (rw c.value_at.ensures at c.in_ok-done.ensures));
      within = rw c.had-next.ensures (omega arith);
    }

pub returns : goal.returns
returns c =
    c.all.invariant.rest ∙ compared_end c.all.done c.args.all.now c.args.values.now c.all.one-index c.all.next (omega arith)
