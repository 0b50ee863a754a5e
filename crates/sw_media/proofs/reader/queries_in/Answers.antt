use Rattle.std.proofs.Common.{◌≡◌, ℕ, ◌+◌, ◌-◌, List, [], ◌∷◌, ◌++◌, Some, length, sym, ◌∙◌, ap, arith}
use Rattle.sw_text_scan.specs.declared.signs.TheConstants.{END}
use Rattle.sw_text_scan.specs.Bytes.{sign, byte}
use Rattle.sw_media.specs.declared.query.Query.{Query}
use Rattle.sw_media.specs.Words.{white}
use Rattle.sw_media.specs.Reading.{query_at, queries_in, conditions_in, list_from}
use Rattle.sw_media.proofs.Loops.{handed_on, is_byte, is_other, list_fails, list_ends, list_wrong, list_goes}
use Rattle.sw_media.proofs.reader.queries_in.Goals as goal

pub returns-in_err-query : goal.returns-in_err-query
returns-in_err-query c =
    let bs = c.args.text.now in
    let deeper = conditions_in bs c.args.levels in
    let w : c.white.result ≡ white bs c.queries.place = c.white.ensures ∙ ap (λ (xs : List ℕ). white xs c.queries.place) c.as_bytes.ensures.value in
    handed_on c.in_err-query.field-0.0 c.from_residual.result (query_at deeper bs c.white.result) (queries_in bs c.args.levels)
    c.from_residual.ensures.1 c.in_err-query.ensures
    (λ e. sym c.queries.invariant
    ∙ list_fails deeper bs ((length bs + 1) - c.queries._turn) c.queries.list c.queries.place (omega arith) (ap (query_at deeper bs) (sym w) ∙ e))

pub returns-then-byte-eq-END : goal.returns-then-byte-eq-END
returns-then-byte-eq-END c =
    let bs = c.args.text.now in
    let deeper = conditions_in bs c.args.levels in
    let j = c.in_ok-query.to in
    let w : c.white.result ≡ white bs c.queries.place = c.white.ensures ∙ ap (λ (xs : List ℕ). white xs c.queries.place) c.as_bytes.ensures.value in
    let v : c.white-behind.result ≡ white bs j = c.white-behind.ensures ∙ ap (λ (xs : List ℕ). white xs j) c.as_bytes-in-queries.ensures.value in
    let b : c.byte_at-byte.result ≡ byte bs (white bs j) =
    c.byte_at-byte.ensures.byte ∙ ap (λ (xs : List ℕ). byte xs c.white-behind.result) c.as_bytes-in-queries-2.ensures.value ∙ ap (byte bs) v in
    sym c.queries.invariant
    ∙ list_ends deeper bs ((length bs + 1) - c.queries._turn) c.queries.list c.queries.place c.in_ok-query.query j (omega arith)
    (ap (query_at deeper bs) (sym w) ∙ c.in_ok-query.ensures) (is_byte c.byte_at-byte.result (byte bs (white bs j)) END b c.if-byte-eq-END.true)
    ∙ ap (λ (list : List Query). Some list) (sym c.in_ok-push.ensures.ok)

pub returns-then-byte-ne-COMMA : goal.returns-then-byte-ne-COMMA
returns-then-byte-ne-COMMA c =
    let bs = c.args.text.now in
    let deeper = conditions_in bs c.args.levels in
    let j = c.in_ok-query.to in
    let w : c.white.result ≡ white bs c.queries.place = c.white.ensures ∙ ap (λ (xs : List ℕ). white xs c.queries.place) c.as_bytes.ensures.value in
    let v : c.white-behind.result ≡ white bs j = c.white-behind.ensures ∙ ap (λ (xs : List ℕ). white xs j) c.as_bytes-in-queries.ensures.value in
    let b : c.byte_at-byte.result ≡ byte bs (white bs j) =
    c.byte_at-byte.ensures.byte ∙ ap (λ (xs : List ℕ). byte xs c.white-behind.result) c.as_bytes-in-queries-2.ensures.value ∙ ap (byte bs) v in
    sym c.queries.invariant
    ∙ list_wrong deeper bs ((length bs + 1) - c.queries._turn) c.queries.list c.queries.place c.in_ok-query.query j (omega arith)
    (ap (query_at deeper bs) (sym w) ∙ c.in_ok-query.ensures) (is_other c.byte_at-byte.result (byte bs (white bs j)) END b c.if-byte-eq-END.false)
    (is_other c.byte_at-byte.result (byte bs (white bs j)) (sign ",") b c.if-byte-ne-COMMA.true)

pub queries-preserved : goal.queries-preserved
queries-preserved c =
    let bs = c.args.text.now in
    let deeper = conditions_in bs c.args.levels in
    let j = c.in_ok-query.to in
    let n = (length bs + 1) - c.queries._turn in
    let w : c.white.result ≡ white bs c.queries.place = c.white.ensures ∙ ap (λ (xs : List ℕ). white xs c.queries.place) c.as_bytes.ensures.value in
    let v : c.white-behind.result ≡ white bs j = c.white-behind.ensures ∙ ap (λ (xs : List ℕ). white xs j) c.as_bytes-in-queries.ensures.value in
    let b : c.byte_at-byte.result ≡ byte bs (white bs j) =
    c.byte_at-byte.ensures.byte ∙ ap (λ (xs : List ℕ). byte xs c.white-behind.result) c.as_bytes-in-queries-2.ensures.value ∙ ap (byte bs) v in
    let less : (length bs + 1) - (c.queries._turn + 1) ≡ n - 1 = omega arith in
    ap (λ (k : ℕ). list_from deeper bs k c.push.new.self (c.white-behind.result + 1)) less
    ∙ ap (λ (list : List Query). list_from deeper bs (n - 1) list (c.white-behind.result + 1)) c.in_ok-push.ensures.ok
    ∙ ap (λ (k : ℕ). list_from deeper bs (n - 1) (c.queries.list ++ c.in_ok-query.query ∷ []) (k + 1)) v
    ∙ sym (list_goes deeper bs n c.queries.list c.queries.place c.in_ok-query.query j (omega arith)
    (ap (query_at deeper bs) (sym w) ∙ c.in_ok-query.ensures) (is_byte c.byte_at-byte.result (byte bs (white bs j)) (sign ",") b c.if-byte-ne-COMMA.false))
    ∙ c.queries.invariant
