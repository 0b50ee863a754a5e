use Rattle.std.proofs.Common.{◌≡◌, ℕ, ◌+◌, ◌-◌, List, Some, length, sym, ◌∙◌, ap, arith}
use Rattle.sw_text_scan.specs.declared.signs.TheConstants.{END}
use Rattle.sw_text_scan.specs.Bytes.{sign, byte}
use Rattle.sw_selector.specs.declared.selector.Part.{Part}
use Rattle.sw_selector.specs.Reading.{complex_at, whole_from, complexes_of, selectors_in, commas_end}
use Rattle.sw_selector.proofs.Loops.{handed_on, is_byte, is_other, whole_fails, whole_ends, whole_wrong, whole_goes}
use Rattle.sw_selector.proofs.reader.complexes_of.Goals as goal

pub returns-in_err-complex : goal.returns-in_err-complex
returns-in_err-complex c =
    let bs = c.args.text.now in
    let deeper = selectors_in bs c.args.levels in
    handed_on c.in_err-complex.field-0.0 c.from_residual.result (complex_at deeper bs c.selectors.place) (complexes_of bs c.args.levels)
    c.from_residual.ensures.1 c.in_err-complex.ensures
    (λ e. sym c.selectors.invariant ∙ whole_fails deeper bs ((length bs + 1) - c.selectors._turn) c.selectors.list c.selectors.place (omega arith) e)

pub returns-then-byte_at-eq-END : goal.returns-then-byte_at-eq-END
returns-then-byte_at-eq-END c =
    let bs = c.args.text.now in
    let deeper = selectors_in bs c.args.levels in
    let j = c.in_ok-complex.to in
    let p : c.commas_end-place.result ≡ commas_end bs j = c.commas_end-place.ensures ∙ ap (λ (xs : List ℕ). commas_end xs j) c.as_bytes.ensures.value in
    let b : c.byte_at.result ≡ byte bs (commas_end bs j) =
    c.byte_at.ensures.byte ∙ ap (λ (xs : List ℕ). byte xs c.commas_end-place.result) c.as_bytes-in-selectors.ensures.value ∙ ap (byte bs) p in
    sym c.selectors.invariant
    ∙ whole_ends deeper bs ((length bs + 1) - c.selectors._turn) c.selectors.list c.selectors.place c.in_ok-complex.complex j (omega arith) c.in_ok-complex.ensures
    (is_byte c.byte_at.result (byte bs (commas_end bs j)) END b c.if-byte_at-eq-END.true)
    ∙ ap (λ (list : List (List Part)). Some list) (sym c.in_ok-push.ensures.ok)

pub returns-then-byte_at-ne-COMMA : goal.returns-then-byte_at-ne-COMMA
returns-then-byte_at-ne-COMMA c =
    let bs = c.args.text.now in
    let deeper = selectors_in bs c.args.levels in
    let j = c.in_ok-complex.to in
    let p : c.commas_end-place.result ≡ commas_end bs j = c.commas_end-place.ensures ∙ ap (λ (xs : List ℕ). commas_end xs j) c.as_bytes.ensures.value in
    let b : c.byte_at.result ≡ byte bs (commas_end bs j) =
    c.byte_at.ensures.byte ∙ ap (λ (xs : List ℕ). byte xs c.commas_end-place.result) c.as_bytes-in-selectors.ensures.value ∙ ap (byte bs) p in
    let d : c.byte_at-in-selectors.result ≡ byte bs j = c.byte_at-in-selectors.ensures.byte ∙ ap (λ (xs : List ℕ). byte xs j) c.as_bytes-in-selectors-2.ensures.value in
    sym c.selectors.invariant
    ∙ whole_wrong deeper bs ((length bs + 1) - c.selectors._turn) c.selectors.list c.selectors.place c.in_ok-complex.complex j (omega arith) c.in_ok-complex.ensures
    (is_other c.byte_at.result (byte bs (commas_end bs j)) END b c.if-byte_at-eq-END.false)
    (is_other c.byte_at-in-selectors.result (byte bs j) (sign ",") d c.if-byte_at-ne-COMMA.true)

pub selectors-preserved : goal.selectors-preserved
selectors-preserved c =
    let bs = c.args.text.now in
    let deeper = selectors_in bs c.args.levels in
    let j = c.in_ok-complex.to in
    let n = (length bs + 1) - c.selectors._turn in
    let p : c.commas_end-place.result ≡ commas_end bs j = c.commas_end-place.ensures ∙ ap (λ (xs : List ℕ). commas_end xs j) c.as_bytes.ensures.value in
    let b : c.byte_at.result ≡ byte bs (commas_end bs j) =
    c.byte_at.ensures.byte ∙ ap (λ (xs : List ℕ). byte xs c.commas_end-place.result) c.as_bytes-in-selectors.ensures.value ∙ ap (byte bs) p in
    let d : c.byte_at-in-selectors.result ≡ byte bs j = c.byte_at-in-selectors.ensures.byte ∙ ap (λ (xs : List ℕ). byte xs j) c.as_bytes-in-selectors-2.ensures.value in
    let less : (length bs + 1) - (c.selectors._turn + 1) ≡ n - 1 = omega arith in
    ap (λ (k : ℕ). whole_from deeper bs k c.push.new.self c.commas_end-place.result) less
    ∙ ap (λ (list : List (List Part)). whole_from deeper bs (n - 1) list c.commas_end-place.result) c.in_ok-push.ensures.ok
    ∙ ap (whole_from deeper bs (n - 1) _) p
    ∙ sym (whole_goes deeper bs n c.selectors.list c.selectors.place c.in_ok-complex.complex j (omega arith) c.in_ok-complex.ensures
    (is_other c.byte_at.result (byte bs (commas_end bs j)) END b c.if-byte_at-eq-END.false)
    (is_byte c.byte_at-in-selectors.result (byte bs j) (sign ",") d c.if-byte_at-ne-COMMA.false))
    ∙ c.selectors.invariant
