use Rattle.std.proofs.Common.{◌≡◌, ℕ, ◌+◌, ◌-◌, length, sym, ◌∙◌, ap, arith}
use Rattle.std.specs.Prelude.{if◌then◌else◌}
use Rattle.sw_text_scan.specs.Brackets.{over}
use Rattle.sw_text_scan.specs.Bytes.{byte, is_white}
use Rattle.sw_eval_raw_text.specs.Cutting.{kept_in}
use Rattle.sw_eval_raw_text.proofs.Cuts.{kept_on}
use Rattle.sw_eval_raw_text.proofs.cutting.kept_end.Goals as goal

pub steps-preserved : goal.steps-preserved
steps-preserved c =
    let bs = c.args.bytes.now in
    let n = length bs - c.steps._step in
    let at = c.steps.at in
    let next : c.over-next.result ≡ over bs at = c.over-next.ensures in
    let end : c.behind-end.result ≡ (if is_white (byte bs at) then c.steps.end else over bs at) =
    c.behind-end.ensures ∙ ap (λ (b : ℕ). if is_white b then c.steps.end else c.over-next.result) c.byte_at.ensures.byte
    ∙ ap (λ (k : ℕ). if is_white (byte bs at) then c.steps.end else k) next in
    let less : length bs - (c.steps._step + 1) ≡ n - 1 = omega arith in
    ap (λ (k : ℕ). kept_in k bs c.over-next.result c.behind-end.result) less
    ∙ ap (λ (k : ℕ). kept_in (n - 1) bs k c.behind-end.result) next
    ∙ ap (kept_in (n - 1) bs (over bs at)) end
    ∙ sym (kept_on n bs at c.steps.end (omega arith) (omega arith))
    ∙ c.steps.invariant
