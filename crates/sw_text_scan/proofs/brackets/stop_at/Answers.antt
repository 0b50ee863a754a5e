use Rattle.std.proofs.Common.{◌≡◌, ℕ, ◌+◌, ◌-◌, List, false, Some, length, option_map, sym, ◌∙◌, ap, arith}
use Rattle.sw_text_scan.specs.Brackets.{stopped, scan_step, scan_from, at_place}
use Rattle.sw_text_scan.proofs.ScanLemmas.{scan_on}
use Rattle.sw_text_scan.proofs.brackets.stop_at.Goals as goal

pub scan-preserved : goal.scan-preserved
scan-preserved c =
    let bs = c.args.bytes.now in
    let n = (length bs + 1) - c.scan._step in
    let more = c.scan_step.new.closers.items in
    let e : stopped c.args.stops bs c.scan.closers.items c.scan.place ≡ false =
    ap (λ (xs : List ℕ). stopped c.args.stops bs xs c.scan.place) (sym c.as_slice.ensures.value) ∙ sym c.stopped.ensures ∙ c.if-stopped.false in
    let f : scan_step bs c.scan.closers.items c.scan.place ≡ Some (at_place more c.in-Some.to) =
    sym c.in_ok-scan_step.ensures ∙ ap (option_map (at_place more)) c.in-Some.is in
    let less : (length bs + 1) - (c.scan._step + 1) ≡ n - 1 = omega arith in
    ap (λ (k : ℕ). scan_from c.args.stops bs k more c.in-Some.to) less
    ∙ sym (scan_on c.args.stops bs n c.scan.closers.items c.scan.place more c.in-Some.to (omega arith) e f)
    ∙ c.scan.invariant
