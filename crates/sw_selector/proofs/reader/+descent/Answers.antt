use Rattle.std.proofs.Common.{◌≡◌, ℕ, ◌+◌, ◌-◌, List, Some, true, length, sym, ◌∙◌, ap, arith}
use Rattle.sw_text_scan.specs.Bytes.{sign, byte}
use Rattle.sw_selector.specs.declared.selector.Part.{Part}
use Rattle.sw_selector.specs.Simples.{takes_selectors}
use Rattle.sw_selector.specs.Reading.{argument_at, complex_from, complex_at, turn_at, list_from, selectors_in}
use Rattle.sw_selector.proofs.Loops.{handed_on, is_byte, is_other, argument_fails, complex_stops, complex_takes, complex_fails, list_fails, list_ends, list_goes}
use Rattle.sw_selector.proofs.reader.+descent.Goals as goal

pub argument_at-returns-in_err-list : goal.argument_at-returns-in_err-list
argument_at-returns-in_err-list t c =
    let deeper = selectors_in c.args.text.now c.args.levels in
    let e : takes_selectors c.args.name ≡ true = ap takes_selectors (sym c.as_str.ensures) ∙ sym c.if-not-takes_selectors.ensures in
    handed_on c.in_err-list.field-0.0 c.from_residual.result (deeper c.args.at) (argument_at deeper c.args.text.now c.args.name c.args.at)
    c.from_residual.ensures.1 c.in_err-list.ensures (λ f. argument_fails deeper c.args.text.now c.args.name c.args.at e f)

pub complex_at-returns-in_err-to : goal.complex_at-returns-in_err-to
complex_at-returns-in_err-to t c =
    let bs = c.args.text.now in
    let deeper = selectors_in bs c.args.levels in
    handed_on c.in_err-to.field-0.0 c.from_residual.result (turn_at deeper bs c.parts.before c.parts.place) (complex_at deeper bs c.args.at)
    c.from_residual.ensures.1 c.in_err-to.ensures
    (λ e. sym c.parts.invariant ∙ complex_fails deeper bs ((length bs + 1) - c.parts._turn) c.parts.before c.parts.parts c.parts.place (omega arith) e)

pub complex_at-returns-in-Stops : goal.complex_at-returns-in-Stops
complex_at-returns-in-Stops t c =
    let bs = c.args.text.now in
    sym c.parts.invariant
    ∙ complex_stops (selectors_in bs c.args.levels) bs ((length bs + 1) - c.parts._turn) c.parts.before c.parts.parts c.parts.place c.in-Stops.to (omega arith)
    (c.in_ok-to.ensures ∙ ap Some c.in-Stops.is)

pub complex_at-parts-preserved : goal.complex_at-parts-preserved
complex_at-parts-preserved t c =
    let bs = c.args.text.now in
    let deeper = selectors_in bs c.args.levels in
    let n = (length bs + 1) - c.parts._turn in
    let less : (length bs + 1) - (c.parts._turn + 1) ≡ n - 1 = omega arith in
    ap (λ (k : ℕ). complex_from deeper bs k c.in-Takes.behind c.push.new.self c.in-Takes.to) less
    ∙ ap (λ (parts : List Part). complex_from deeper bs (n - 1) c.in-Takes.behind parts c.in-Takes.to) c.in_ok-push-in-Takes.ensures.ok
    ∙ sym (complex_takes deeper bs n c.parts.before c.parts.parts c.parts.place c.in-Takes.part c.in-Takes.behind c.in-Takes.to (omega arith) (c.in_ok-to.ensures ∙ ap Some c.in-Takes.is))
    ∙ c.parts.invariant

pub selectors_in-returns-in_err-complex : goal.selectors_in-returns-in_err-complex
selectors_in-returns-in_err-complex t c =
    let bs = c.args.text.now in
    let deeper = selectors_in bs (c.args.levels - 1) in
    handed_on c.in_err-complex.field-0.0 c.from_residual.result (complex_at deeper bs c.selectors.place) (selectors_in bs c.args.levels c.args.at)
    c.from_residual.ensures.1 c.in_err-complex.ensures
    (λ e. sym c.selectors.invariant ∙ list_fails deeper bs ((length bs + 1) - c.selectors._turn) c.selectors.list c.selectors.place (omega arith) e)

pub selectors_in-returns-then-byte_at-ne-COMMA : goal.selectors_in-returns-then-byte_at-ne-COMMA
selectors_in-returns-then-byte_at-ne-COMMA t c =
    let bs = c.args.text.now in
    let deeper = selectors_in bs (c.args.levels - 1) in
    let b : c.byte_at.result ≡ byte bs c.in_ok-complex.to = c.byte_at.ensures.byte ∙ ap (λ (xs : List ℕ). byte xs c.in_ok-complex.to) c.as_bytes.ensures.value in
    sym c.selectors.invariant
    ∙ list_ends deeper bs ((length bs + 1) - c.selectors._turn) c.selectors.list c.selectors.place c.in_ok-complex.complex c.in_ok-complex.to (omega arith) c.in_ok-complex.ensures
    (is_other c.byte_at.result (byte bs c.in_ok-complex.to) (sign ",") b c.if-byte_at-ne-COMMA.true)
    ∙ ap (λ (list : List (List Part)). Some (list, c.in_ok-complex.to)) (sym c.in_ok-push.ensures.ok)

pub selectors_in-selectors-preserved : goal.selectors_in-selectors-preserved
selectors_in-selectors-preserved t c =
    let bs = c.args.text.now in
    let deeper = selectors_in bs (c.args.levels - 1) in
    let n = (length bs + 1) - c.selectors._turn in
    let b : c.byte_at.result ≡ byte bs c.in_ok-complex.to = c.byte_at.ensures.byte ∙ ap (λ (xs : List ℕ). byte xs c.in_ok-complex.to) c.as_bytes.ensures.value in
    let less : (length bs + 1) - (c.selectors._turn + 1) ≡ n - 1 = omega arith in
    ap (λ (k : ℕ). list_from deeper bs k c.push.new.self (c.in_ok-complex.to + 1)) less
    ∙ ap (λ (list : List (List Part)). list_from deeper bs (n - 1) list (c.in_ok-complex.to + 1)) c.in_ok-push.ensures.ok
    ∙ sym (list_goes deeper bs n c.selectors.list c.selectors.place c.in_ok-complex.complex c.in_ok-complex.to (omega arith) c.in_ok-complex.ensures
    (is_byte c.byte_at.result (byte bs c.in_ok-complex.to) (sign ",") b c.if-byte_at-ne-COMMA.false))
    ∙ c.selectors.invariant
