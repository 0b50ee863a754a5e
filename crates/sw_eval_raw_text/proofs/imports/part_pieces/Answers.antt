use Rattle.std.proofs.Common.{◌≡◌, ℕ, ◌+◌, ◌-◌, ◌++◌, Some, length, sym, ◌∙◌, ap, arith}
use Rattle.sw_eval_raw_text.specs.Imports.{place_for, pieces_in}
use Rattle.sw_eval_raw_text.proofs.Imported.{marks_next, taken_next}
use Rattle.sw_eval_raw_text.proofs.imports.part_pieces.Goals as goal

pub marks-preserved : goal.marks-preserved
marks-preserved c =
    let bs = c.args.part.now in
    let vs = c.args.values.now in
    let n = (length bs + 1) - c.marks._mark in
    let at : place_for bs vs c.marks.next c.marks.from ≡ Some c.in-Some.mark = sym (rw c.as_bytes-bytes.ensures.value at c.place_for.ensures.place) ∙ c.in-Some.is in
    let less : (length bs + 1) - (c.marks._mark + 1) ≡ n - 1 = omega arith in
    record {
      pieces = ap (λ (k : ℕ). c.push.new.self ++ (pieces_in k bs vs (c.marks.next + 1) (c.in-Some.mark + 3)).0) less
          ∙ marks_next bs vs c.marks.pieces c.add_piece-in-Some.new.pieces c.push.new.self n c.marks.next c.marks.from c.in-Some.mark c.index-values-next.result (omega arith) at c.index-values-next.is c.in-Some.ensures.left c.in_ok-add_piece-in-Some.ensures (rw c.in_ok-value-in-Some.ensures at c.in_ok-push-in-Some.ensures.ok)
          ∙ c.marks.invariant.pieces;
      next = ap (λ (k : ℕ). (pieces_in k bs vs (c.marks.next + 1) (c.in-Some.mark + 3)).1) less
          ∙ taken_next bs vs n c.marks.next c.marks.from c.in-Some.mark c.index-values-next.result (omega arith) at c.index-values-next.is c.in-Some.ensures.left
          ∙ c.marks.invariant.next;
    }
