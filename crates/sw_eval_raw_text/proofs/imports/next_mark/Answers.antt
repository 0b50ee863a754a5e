use Rattle.std.proofs.Common.{◌≡◌, ℕ, ◌+◌, ◌-◌, false, length, sym, ◌∙◌, ap, arith}
use Rattle.sw_eval_raw_text.specs.Imports.{is_mark, mark_in}
use Rattle.sw_eval_raw_text.proofs.Imported.{mark_on}
use Rattle.sw_eval_raw_text.proofs.imports.next_mark.Goals as goal

pub steps-preserved : goal.steps-preserved
steps-preserved c =
    let bs = c.args.bytes.now in
    let n = length bs - c.steps._step in
    let e : is_mark bs c.steps.at ≡ false = sym c.is_mark.ensures.test ∙ c.if-is_mark.false in
    let less : length bs - (c.steps._step + 1) ≡ n - 1 = omega arith in
    ap (λ (k : ℕ). mark_in k bs (c.steps.at + c.mark_step-at.result)) less
    ∙ ap (λ (k : ℕ). mark_in (n - 1) bs (c.steps.at + k)) c.mark_step-at.ensures
    ∙ sym (mark_on bs n c.steps.at (omega arith) (omega arith) e)
    ∙ c.steps.invariant
