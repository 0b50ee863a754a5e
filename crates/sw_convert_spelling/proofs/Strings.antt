-- What is written of a text as a string stands for the text.
use Rattle.std.proofs.Common.{◌≡◌, ℕ, zero, suc, ◌+◌, ◌-◌, ◌*◌, ◌/◌, ◌%◌, ◌≤◌, ◌<◌, Bool, true, false, not, ◌&&◌, ◌||◌, if◌then◌else◌, List, [], ◌∷◌, ◌++◌, length, refl, sym, ◌∙◌, ap, subst, arith, lit<, append_assoc, append-nil, length-append, encode_utf8}
use Rattle.std.specs.Prelude.{◌==◌, nat_lt, nat_le}
use Rattle.std.specs.Char.{digit_char}
use Rattle.std.specs.List.{list_all}
use Rattle.std.proofs.Math.Nat.{div-add-mod}
use Rattle.std.proofs.lemmas.Bool.Decides.{nat_tests}
use Rattle.std.proofs.lemmas.Nat.{div_below, mod_below}
use Rattle.std.proofs.lemmas.Str.{encode_ascii}
use Rattle.sw_text_scan.specs.declared.runs.Class.TheVariants as classes
use Rattle.sw_text_scan.specs.declared.signs.TheConstants.{END, CARRIAGE_RETURN, LINE_FEED}
use Rattle.sw_text_scan.specs.Bytes.{sign, byte, is_break, is_white, is_hex_digit, opens_at}
use Rattle.sw_text_scan.specs.Runs.{hex_from, hex_end, white_end, escape_end, text_next, next, run_end}
use Rattle.sw_text_scan.proofs.Bounds.{if_true, if_false, and_left, and_right, or_left, or_right, byte_past, not_end, run_step}
use Rattle.sw_tokens.specs.Decoded.{digit_value, value_from, hex_value, char_of, told_at, told_end, decoded_from, decoded_rest, decoded, is_surrogate, is_beyond, replacement}
use Rattle.sw_tokens.proofs.Decoding.{told_onward, decoded_past}
use Rattle.sw_convert_spelling.specs.Strings.{is_coded, hex_of, joins_escape, escape_close, begins_brace, is_escaped, escape, escaped, are_bytes, StandsFor}
use Rattle.sw_convert_spelling.proofs.Here.{Here, here_left, here_right, here_both, stands}
use Rattle.sw_convert_spelling.proofs.Choices.{left_no}

equal : (b n : ℕ) → (b == n) ≡ true → b ≡ n
equal b n e = grind (arith, nat_tests)

-- ---- the steps of decoding

module _ (bs : List ℕ) where
  fuel : (n m i : ℕ) → length bs ≤ n + i → length bs ≤ m + i → decoded_from bs n i ≡ decoded_from bs m i
  fuel zero zero i a b = refl
  fuel zero (suc m) i a b = sym (if_false (nat_lt i (length bs)) _ [] (grind (arith, nat_tests)))
  fuel (suc n) zero i a b = if_false (nat_lt i (length bs)) _ [] (grind (arith, nat_tests))
  fuel (suc n) (suc m) i a b =
      both (nat_lt i (length bs)) refl
      (λ e. let l : i < length bs = grind (arith, nat_tests) in let f = (told_onward bs i l).forward in fuel n m (told_end bs i) (omega (arith, f, a)) (omega (arith, f, b)))
    where
      both : (t : Bool) → nat_lt i (length bs) ≡ t → (nat_lt i (length bs) ≡ true → decoded_from bs n (told_end bs i) ≡ decoded_from bs m (told_end bs i))
          → (if t then told_at bs i ++ decoded_from bs n (told_end bs i) else []) ≡ (if t then told_at bs i ++ decoded_from bs m (told_end bs i) else [])
      both true e ih = ap (λ (x : List ℕ). told_at bs i ++ x) (ih e)
      both false e ih = refl

  decoded_step : (i : ℕ) → i < length bs → decoded_rest bs i ≡ told_at bs i ++ decoded_rest bs (told_end bs i)
  unfolding decoded_rest
  decoded_step i l =
      let less : length bs - i ≡ suc (length bs - suc i) = omega (arith, l) in
      let f = (told_onward bs i l).forward in
      ap (λ (n : ℕ). decoded_from bs n i) less
      ∙ if_true (nat_lt i (length bs)) (told_at bs i ++ decoded_from bs (length bs - suc i) (told_end bs i)) [] (grind (arith, nat_tests))
      ∙ ap (λ (x : List ℕ). told_at bs i ++ x) (fuel (length bs - suc i) (length bs - told_end bs i) (told_end bs i) (omega (arith, f, l)) (omega arith))

-- ---- hexadecimal digits

digit_hex : (d : ℕ) → d < 16 → is_hex_digit (digit_char d) ≡ true
digit_hex d l = go (nat_lt d 10) refl
  where
    go : (t : Bool) → nat_lt d 10 ≡ t → is_hex_digit (if t then 48 + d else 87 + d) ≡ true
    go true e = grind (arith, nat_tests)
    go false e = grind (arith, nat_tests)

digit_back : (d : ℕ) → d < 16 → digit_value (digit_char d) ≡ d
digit_back d l = go (nat_lt d 10) refl
  where
    small : d < 10 → (48 + d) - 48 ≡ d
    small l = omega arith

    large : 10 ≤ d → ((87 + d) - 97) + 10 ≡ d
    large l = omega arith

    go : (t : Bool) → nat_lt d 10 ≡ t → digit_value (if t then 48 + d else 87 + d) ≡ d
    go true e = if_true _ _ _ (let t : (nat_lt 47 (48 + d)) ≡ true = grind (arith, nat_tests) in first (48 + d) (omega arith) (let lt : d < 10 = grind (arith, nat_tests) in omega (arith, lt))) ∙ small (let lt : d < 10 = grind (arith, nat_tests) in lt)
      where
        first : (b : ℕ) → 48 ≤ b → b ≤ 57 → (nat_le 48 b && nat_le b 57) ≡ true
        first b l h = grind (arith, nat_tests)
    go false e =
        let low : 10 ≤ d = grind (arith, nat_tests) in
        if_false _ _ _ (no_digit (87 + d) (omega (arith, low))) ∙ if_false _ _ _ (no_upper (87 + d) (omega (arith, low))) ∙ large low
      where
        no_digit : (b : ℕ) → 97 ≤ b → (nat_le 48 b && nat_le b 57) ≡ false
        no_digit b l = grind (arith, nat_tests)

        no_upper : (b : ℕ) → 97 ≤ b → nat_lt b 97 ≡ false
        no_upper b l = grind (arith, nat_tests)

-- the number that digits write behind a number
abbrev written : ℕ → List ℕ → ℕ
written v [] = v
written v (d ∷ ds) = written (v * 16 + digit_value d) ds

-- digits that write a number, so few that an escape may have more
record Writes (b : ℕ) (ds : List ℕ) : Type 0 where
  digits : list_all is_hex_digit ds ≡ true
  few : length ds < 6
  some : 0 < length ds
  number : written 0 ds ≡ b

hex_writes : (b : ℕ) → b < 256 → Writes b (hex_of b)
hex_writes b l = go (nat_lt b 16) refl
  where
    two : (p q : Bool) → p ≡ true → q ≡ true → (p && (q && true)) ≡ true
    two true true e f = refl
    two true false e f = f
    two false q e f = e

    one : (p : Bool) → p ≡ true → (p && true) ≡ true
    one true e = refl
    one false e = e

    go : (t : Bool) → nat_lt b 16 ≡ t → Writes b (if t then digit_char b ∷ [] else digit_char (b / 16) ∷ digit_char (b % 16) ∷ [])
    go true e =
        let low : b < 16 = grind (arith, nat_tests) in
        record { digits = one (is_hex_digit (digit_char b)) (digit_hex b low); few = omega arith; some = omega arith; number = let d = digit_back b low in omega (arith, d) }
    go false e =
        let high : b / 16 < 16 = div_below b 16 16 (lit< tt) (omega (arith, l)) in
        let low : b % 16 < 16 = mod_below b 16 (lit< tt) in
        record {
          digits = two (is_hex_digit (digit_char (b / 16))) (is_hex_digit (digit_char (b % 16))) (digit_hex (b / 16) high) (digit_hex (b % 16) low);
          few = omega arith;
          some = omega arith;
          number = let d = digit_back (b / 16) high in let r = digit_back (b % 16) low in let all = div-add-mod b 16 in omega (arith, d, r, all);
        }

module _ (bs : List ℕ) where
  hex_run : (n : ℕ) (ds : List ℕ) (i : ℕ) → length ds < n → list_all is_hex_digit ds ≡ true → Here bs i ds → is_hex_digit (byte bs (i + length ds)) ≡ false → hex_from bs n i ≡ i + length ds
  hex_run zero ds i l all h stop = absurd (omega (arith, l))
  hex_run (suc n) [] i l all h stop =
      let same : i + 0 ≡ i = omega arith in
      if_false (is_hex_digit (byte bs i)) (hex_from bs n (i + 1)) i (ap (λ (k : ℕ). is_hex_digit (byte bs k)) (sym same) ∙ stop) ∙ sym same
  hex_run (suc n) (x ∷ ds) i l all h stop =
      let same : (i + 1) + length ds ≡ i + length (x ∷ ds) = omega arith in
      if_true (is_hex_digit (byte bs i)) (hex_from bs n (i + 1)) i (ap is_hex_digit h.0 ∙ and_left (is_hex_digit x) _ all)
      ∙ hex_run n ds (i + 1) (omega (arith, l)) (and_right (is_hex_digit x) _ all) h.1 (ap (λ (k : ℕ). is_hex_digit (byte bs k)) same ∙ stop) ∙ same

  value_run : (n : ℕ) (ds : List ℕ) (i v : ℕ) → length ds < n → list_all is_hex_digit ds ≡ true → Here bs i ds → is_hex_digit (byte bs (i + length ds)) ≡ false → value_from bs n i v ≡ written v ds
  value_run zero ds i v l all h stop = absurd (omega (arith, l))
  value_run (suc n) [] i v l all h stop =
      let same : i + 0 ≡ i = omega arith in
      if_false (is_hex_digit (byte bs i)) _ v (ap (λ (k : ℕ). is_hex_digit (byte bs k)) (sym same) ∙ stop)
  value_run (suc n) (x ∷ ds) i v l all h stop =
      let same : (i + 1) + length ds ≡ i + length (x ∷ ds) = omega arith in
      if_true (is_hex_digit (byte bs i)) (value_from bs n (i + 1) (v * 16 + digit_value (byte bs i))) v (ap is_hex_digit h.0 ∙ and_left (is_hex_digit x) _ all)
      ∙ ap (λ (c : ℕ). value_from bs n (i + 1) (v * 16 + digit_value c)) h.0
      ∙ value_run n ds (i + 1) (v * 16 + digit_value x) (omega (arith, l)) (and_right (is_hex_digit x) _ all) h.1 (ap (λ (k : ℕ). is_hex_digit (byte bs k)) same ∙ stop)

-- ---- what is written of one byte

-- no digit and no white space: behind hexadecimal digits this is no part of their escape
abbrev free : ℕ → Bool
free c = not (is_hex_digit c || is_white c)

free_hex : (c : ℕ) → free c ≡ true → is_hex_digit c ≡ false
free_hex c e = grind (arith, nat_tests)

free_white : (c : ℕ) → free c ≡ true → is_white c ≡ false
free_white c e = grind (arith, nat_tests)

white_return : (c : ℕ) → is_white c ≡ false → (c == CARRIAGE_RETURN) ≡ false
white_return c e = grind (arith, nat_tests)

hex_break : (c : ℕ) → is_hex_digit c ≡ true → is_break c ≡ false
hex_break c e = grind (arith, nat_tests)

hex_end_byte : (c : ℕ) → is_hex_digit c ≡ true → (c == END) ≡ false
hex_end_byte c e = grind (arith, nat_tests)

module _ (bs : List ℕ) where
  -- n bytes are one byte of the text, for decoding and for the string's end
  record Taken (b i n : ℕ) : Type 0 where
    told : told_at bs i ≡ b ∷ []
    ends : told_end bs i ≡ i + n
    goes : next (classes.SheetText (sign "\"")) bs i ≡ i + n
    some : 0 < n
    within : i < length bs

  slash_within : (i : ℕ) → byte bs i ≡ sign "\\" → i < length bs
  slash_within i s = not_end bs i (ap (λ (c : ℕ). c == END) s)

  -- at a `\`
  slash_told : (i : ℕ) → byte bs i ≡ sign "\\" → told_at bs i
      ≡ (if is_hex_digit (byte bs (i + 1)) then encode_utf8 (char_of (hex_value bs (i + 1))) else (if is_break (byte bs (i + 1)) || (byte bs (i + 1) == END) then [] else byte bs (i + 1) ∷ []))
  slash_told i s = if_false (not (byte bs i == sign "\\")) _ _ (ap (λ (c : ℕ). not (c == sign "\\")) s)

  slash_ends : (i : ℕ) → byte bs i ≡ sign "\\" → told_end bs i
      ≡ (if is_hex_digit (byte bs (i + 1)) then escape_end bs i else (if is_break (byte bs (i + 1)) then white_end bs (i + 1) else (if byte bs (i + 1) == END then i + 1 else i + 2)))
  unfolding told_end
  slash_ends i s = if_false (not (byte bs i == sign "\\")) _ _ (ap (λ (c : ℕ). not (c == sign "\\")) s)

  slash_escape : (i : ℕ) → byte bs i ≡ sign "\\" → escape_end bs i
      ≡ (if is_hex_digit (byte bs (i + 1)) then white_end bs (hex_end bs (i + 1)) else (if is_break (byte bs (i + 1)) || (byte bs (i + 1) == END) then i else i + 2))
  unfolding escape_end
  slash_escape i s = if_false (not (byte bs i == sign "\\")) _ _ (ap (λ (c : ℕ). not (c == sign "\\")) s)

  slash_next : (i : ℕ) → byte bs i ≡ sign "\\" → is_break (byte bs (i + 1)) ≡ false → (byte bs (i + 1) == END) ≡ false → next (classes.SheetText (sign "\"")) bs i ≡ escape_end bs i
  unfolding text_next
  slash_next i s no_break no_end =
      if_false (opens_at bs i) i _ (left_no (byte bs i == sign "#") _ (ap (λ (c : ℕ). c == sign "#") s))
      ∙ if_false ((byte bs i == sign "\"") || (is_break (byte bs i) || (byte bs i == END))) i _ (ap (λ (c : ℕ). (c == sign "\"") || (is_break c || (c == END))) s)
      ∙ if_false (not (byte bs i == sign "\\")) (i + 1) _ (ap (λ (c : ℕ). not (c == sign "\\")) s)
      ∙ if_false (is_break (byte bs (i + 1))) (white_end bs (i + 1)) _ no_break
      ∙ if_false (byte bs (i + 1) == END) (i + 1) (escape_end bs i) no_end

  first_of : (i : ℕ) (ds : List ℕ) → 0 < length ds → list_all is_hex_digit ds ≡ true → Here bs i ds → is_hex_digit (byte bs i) ≡ true
  first_of i [] some all h = absurd (omega (arith, some))
  first_of i (d ∷ ds) some all h = ap is_hex_digit h.0 ∙ and_left (is_hex_digit d) _ all

  white_close : (j : ℕ) (join : Bool) → Here bs j (escape_close join) → (join ≡ false → free (byte bs j) ≡ true) → (white_end bs j ≡ j + length (escape_close join)) × (is_hex_digit (byte bs j) ≡ false)
  white_close j true h f = (
    if_false ((byte bs j == CARRIAGE_RETURN) && (byte bs (j + 1) == LINE_FEED)) (j + 2) _ (left_no (byte bs j == CARRIAGE_RETURN) _ (ap (λ (c : ℕ). c == CARRIAGE_RETURN) h.0))
        ∙ if_true (is_white (byte bs j)) (j + 1) j (ap is_white h.0),
    ap is_hex_digit h.0,
  )
  white_close j false h f =
      let clear = f refl in
      let dark = free_white (byte bs j) clear in (
        if_false ((byte bs j == CARRIAGE_RETURN) && (byte bs (j + 1) == LINE_FEED)) (j + 2) _ (left_no (byte bs j == CARRIAGE_RETURN) _ (white_return (byte bs j) dark))
            ∙ if_false (is_white (byte bs j)) (j + 1) j dark ∙ (let e : j ≡ j + 0 = omega arith in e),
        free_hex (byte bs j) clear,
      )

  one_byte : (b : ℕ) → is_coded b ≡ true → (b < 128) × (char_of b ≡ b)
  one_byte b e =
      (grind (arith, nat_tests), if_false ((b == 0) || (is_surrogate b || is_beyond b)) replacement b (plain b e))
    where
      plain : (b : ℕ) → is_coded b ≡ true → ((b == 0) || (is_surrogate b || is_beyond b)) ≡ false
      plain b e = grind (arith, nat_tests)

  encoded : (b : ℕ) → b < 128 → encode_utf8 b ≡ b ∷ []
  encoded b l = encode_ascii b l

  coded : (b i : ℕ) (join : Bool) → is_coded b ≡ true → Here bs i (sign "\\" ∷ (hex_of b ++ escape_close join)) → (join ≡ false → free (byte bs ((i + 1) + length (hex_of b))) ≡ true)
      → Taken b i (length (sign "\\" ∷ (hex_of b ++ escape_close join)))
  unfolding hex_end hex_value
  coded b i join e h f =
      let small = (one_byte b e).0 in
      let w = hex_writes b (omega (arith, small)) in
      let ds = hex_of b in
      let there = here_left bs (i + 1) ds (escape_close join) h.1 in
      let close = white_close ((i + 1) + length ds) join (here_right bs (i + 1) ds (escape_close join) h.1) f in
      let hex : is_hex_digit (byte bs (i + 1)) ≡ true = first_of (i + 1) ds w.some w.digits there in
      let run : hex_end bs (i + 1) ≡ (i + 1) + length ds = hex_run bs 6 ds (i + 1) w.few w.digits there close.1 in
      let value : hex_value bs (i + 1) ≡ b = value_run bs 6 ds (i + 1) 0 w.few w.digits there close.1 ∙ w.number in
      let long : ((i + 1) + length ds) + length (escape_close join) ≡ i + length (sign "\\" ∷ (ds ++ escape_close join)) = (let l = length-append ds (escape_close join) in omega (arith, l)) in
      let escape_ = slash_escape i h.0 ∙ if_true (is_hex_digit (byte bs (i + 1))) _ _ hex ∙ ap (white_end bs) run ∙ close.0 ∙ long in
      record {
        told = slash_told i h.0 ∙ if_true (is_hex_digit (byte bs (i + 1))) _ _ hex ∙ ap (λ (v : ℕ). encode_utf8 (char_of v)) value ∙ ap encode_utf8 (one_byte b e).1 ∙ encoded b small;
        ends = slash_ends i h.0 ∙ if_true (is_hex_digit (byte bs (i + 1))) _ _ hex ∙ escape_;
        goes = slash_next i h.0 (hex_break (byte bs (i + 1)) hex) (hex_end_byte (byte bs (i + 1)) hex) ∙ escape_;
        some = omega arith;
        within = slash_within i h.0;
      }

  -- the quote, `\` or `#`
  abbrev is_sign : ℕ → Bool
  is_sign b = (b == sign "\"") || ((b == sign "\\") || (b == sign "#"))

  sign_hex : (b : ℕ) → is_sign b ≡ true → is_hex_digit b ≡ false
  sign_hex b e = grind (arith, nat_tests)

  sign_break : (b : ℕ) → is_sign b ≡ true → is_break b ≡ false
  sign_break b e = grind (arith, nat_tests)

  sign_end : (b : ℕ) → is_sign b ≡ true → (b == END) ≡ false
  sign_end b e = grind (arith, nat_tests)

  sign_other : (b : ℕ) → is_sign b ≡ true → (is_break b || (b == END)) ≡ false
  sign_other b e = grind (arith, nat_tests)

  slashed : (b i : ℕ) → is_sign b ≡ true → Here bs i (sign "\\" ∷ b ∷ []) → Taken b i 2
  slashed b i e h =
      let second = h.1.0 in
      let hex = ap is_hex_digit second ∙ sign_hex b e in
      let other = ap (λ (c : ℕ). is_break c || (c == END)) second ∙ sign_other b e in
      let no_break = ap is_break second ∙ sign_break b e in
      let no_end = ap (λ (c : ℕ). c == END) second ∙ sign_end b e in
      record {
        told = slash_told i h.0 ∙ if_false (is_hex_digit (byte bs (i + 1))) _ _ hex ∙ if_false (is_break (byte bs (i + 1)) || (byte bs (i + 1) == END)) _ _ other ∙ ap (λ (c : ℕ). c ∷ []) second;
        ends = slash_ends i h.0 ∙ if_false (is_hex_digit (byte bs (i + 1))) _ _ hex ∙ if_false (is_break (byte bs (i + 1))) _ _ no_break ∙ if_false (byte bs (i + 1) == END) _ _ no_end;
        goes = slash_next i h.0 no_break no_end ∙ slash_escape i h.0 ∙ if_false (is_hex_digit (byte bs (i + 1))) _ _ hex ∙ if_false (is_break (byte bs (i + 1)) || (byte bs (i + 1) == END)) _ _ other;
        some = omega arith;
        within = slash_within i h.0;
      }

  plain_stop : (b : ℕ) → is_coded b ≡ false → (b == sign "\"") ≡ false → nat_lt b END ≡ true → ((b == sign "\"") || (is_break b || (b == END))) ≡ false
  plain_stop b c q l = grind (arith, nat_tests)

  plain : (b i : ℕ) (rest : List ℕ) → is_coded b ≡ false → is_escaped b rest ≡ false → nat_lt b END ≡ true → byte bs i ≡ b → (begins_brace rest ≡ false → (byte bs (i + 1) == sign "{") ≡ false) → Taken b i 1
  unfolding told_end text_next
  plain b i rest c e l h brace =
      let quote = or_left (b == sign "\"") _ e in
      let more = or_right (b == sign "\"") _ e in
      let slash = or_left (b == sign "\\") _ more in
      let hash = or_right (b == sign "\\") _ more in
      let no = ap (λ (x : ℕ). not (x == sign "\\")) h ∙ ap not slash in
      record {
        told = if_true (not (byte bs i == sign "\\")) (byte bs i ∷ []) _ no ∙ ap (λ (x : ℕ). x ∷ []) h;
        ends = if_true (not (byte bs i == sign "\\")) (i + 1) _ no;
        goes =
            if_false (opens_at bs i) i _ (opens (b == sign "#") (begins_brace rest) hash brace (ap (λ (x : ℕ). x == sign "#") h))
            ∙ if_false ((byte bs i == sign "\"") || (is_break (byte bs i) || (byte bs i == END))) i _ (ap (λ (x : ℕ). (x == sign "\"") || (is_break x || (x == END))) h ∙ plain_stop b c quote l)
            ∙ if_true (not (byte bs i == sign "\\")) (i + 1) _ no;
        some = omega arith;
        within = not_end bs i (ap (λ (x : ℕ). x == END) h ∙ no_end b l);
      }
    where
      no_end : (b : ℕ) → nat_lt b END ≡ true → (b == END) ≡ false
      no_end b l = grind (arith, nat_tests)

      opens : (t u : Bool) → (t && u) ≡ false → (u ≡ false → (byte bs (i + 1) == sign "{") ≡ false) → (byte bs i == sign "#") ≡ t → opens_at bs i ≡ false
      opens true u f g k = ap (λ (x : Bool). x && (byte bs (i + 1) == sign "{")) k ∙ g f
      opens false u f g k = left_no (byte bs i == sign "#") _ k

  -- ---- what stands behind it

  -- what ends a string, or the text of one before `#{`
  abbrev pub is_stop : ℕ → Bool
  is_stop c = (c == sign "\"") || ((c == sign "#") || (c == END))

  record Follows (rest : List ℕ) (c : ℕ) : Type 0 where
    clear : joins_escape rest ≡ false → free c ≡ true
    brace : begins_brace rest ≡ false → (c == sign "{") ≡ false

  follows : (rest : List ℕ) (j stop : ℕ) → is_stop stop ≡ true → Here bs j (escaped rest ++ stop ∷ []) → Follows rest (byte bs j)
  follows [] j stop s h = record { clear = λ e. ap free h.0 ∙ stops stop s; brace = λ e. ap (λ (c : ℕ). c == sign "{") h.0 ∙ no_brace stop s }
    where
      stops : (c : ℕ) → is_stop c ≡ true → free c ≡ true
      stops c s = grind (arith, nat_tests)

      no_brace : (c : ℕ) → is_stop c ≡ true → (c == sign "{") ≡ false
      no_brace c s = grind (arith, nat_tests)
  follows (x ∷ rest) j stop s h = go (is_coded x) refl (is_escaped x rest) refl h
    where
      slash : byte bs j ≡ sign "\\" → Follows (x ∷ rest) (byte bs j)
      slash e = record { clear = λ f. ap free e; brace = λ f. ap (λ (c : ℕ). c == sign "{") e }

      bare : is_coded x ≡ false → byte bs j ≡ x → Follows (x ∷ rest) (byte bs j)
      bare c e = record { clear = λ f. ap free e ∙ clear x c f; brace = λ f. ap (λ (y : ℕ). y == sign "{") e ∙ f }
        where
          clear : (x : ℕ) → is_coded x ≡ false → (is_hex_digit x || ((x == 32) || (x == 9))) ≡ false → free x ≡ true
          clear x c f = grind (arith, nat_tests)

      go : (t : Bool) → is_coded x ≡ t → (u : Bool) → is_escaped x rest ≡ u
          → Here bs j (((if t then sign "\\" ∷ (hex_of x ++ escape_close (joins_escape rest)) else (if u then sign "\\" ∷ x ∷ [] else x ∷ [])) ++ escaped rest) ++ stop ∷ [])
          → Follows (x ∷ rest) (byte bs j)
      go true c u e h = slash h.0
      go false c true e h = slash h.0
      go false c false e h = bare c h.0

  item : (b : ℕ) (rest : List ℕ) (i stop : ℕ) → nat_lt b END ≡ true → is_stop stop ≡ true → Here bs i (escape b rest ++ (escaped rest ++ stop ∷ [])) → Taken b i (length (escape b rest))
  item b rest i stop l s h =
      go (is_coded b) refl (is_escaped b rest) refl h
    where
      sign_of_escaped : is_escaped b rest ≡ true → is_sign b ≡ true
      sign_of_escaped e = weaker (b == sign "\"") (b == sign "\\") (b == sign "#") (begins_brace rest) e
        where
          weaker : (p q r t : Bool) → (p || (q || (r && t))) ≡ true → (p || (q || r)) ≡ true
          weaker true q r t e = refl
          weaker false true r t e = refl
          weaker false false true t e = refl
          weaker false false false t e = e

      go : (t : Bool) → is_coded b ≡ t → (u : Bool) → is_escaped b rest ≡ u
          → Here bs i ((if t then sign "\\" ∷ (hex_of b ++ escape_close (joins_escape rest)) else (if u then sign "\\" ∷ b ∷ [] else b ∷ [])) ++ (escaped rest ++ stop ∷ []))
          → Taken b i (length (if t then sign "\\" ∷ (hex_of b ++ escape_close (joins_escape rest)) else (if u then sign "\\" ∷ b ∷ [] else b ∷ [])))
      go true c u e h =
          coded b i (joins_escape rest) c (here_left bs i (sign "\\" ∷ (hex_of b ++ escape_close (joins_escape rest))) (escaped rest ++ stop ∷ []) h)
          (λ n. subst (λ (k : ℕ). free (byte bs k) ≡ true) (place n)
          ((follows rest _ stop s (here_right bs i (sign "\\" ∷ (hex_of b ++ escape_close (joins_escape rest))) (escaped rest ++ stop ∷ []) h)).clear n))
        where
          place : joins_escape rest ≡ false → i + length (sign "\\" ∷ (hex_of b ++ escape_close (joins_escape rest))) ≡ (i + 1) + length (hex_of b)
          place n =
              let a = length-append (hex_of b) (escape_close (joins_escape rest)) in
              let z : length (escape_close (joins_escape rest)) ≡ 0 = ap (λ (t : Bool). length (escape_close t)) n in
              omega (arith, a, z)
      go false c true e h = slashed b i (sign_of_escaped e) (here_left bs i (sign "\\" ∷ b ∷ []) (escaped rest ++ stop ∷ []) h)
      go false c false e h = plain b i rest c e l h.0 ((follows rest (i + 1) stop s h.1).brace)

  -- ---- the whole text

  pub text_run : (text : List ℕ) (i stop : ℕ) → are_bytes text ≡ true → is_stop stop ≡ true → Here bs i (escaped text ++ stop ∷ [])
      → (run_end (classes.SheetText (sign "\"")) bs i ≡ run_end (classes.SheetText (sign "\"")) bs (i + length (escaped text)))
      × (decoded_rest bs i ≡ text ++ decoded_rest bs (i + length (escaped text)))
  text_run [] i stop l s h = let same : i ≡ i + 0 = omega arith in (ap (run_end (classes.SheetText (sign "\"")) bs) same, ap (decoded_rest bs) same)
  text_run (b ∷ rest) i stop l s h =
      let here = subst (λ (xs : List ℕ). Here bs i xs) (append_assoc (escape b rest) (escaped rest) (stop ∷ [])) h in
      let it = item b rest i stop (and_left (nat_lt b END) _ l) s here in
      let n = length (escape b rest) in
      let goes = it.goes in
      let some = it.some in
      let more = text_run rest (i + n) stop (and_right (nat_lt b END) _ l) s (here_right bs i (escape b rest) (escaped rest ++ stop ∷ []) here) in
      let all : (i + n) + length (escaped rest) ≡ i + length (escaped (b ∷ rest)) = (let a = length-append (escape b rest) (escaped rest) in omega (arith, a)) in (
        sym (run_step bs (classes.SheetText (sign "\"")) i (omega (arith, goes, some))) ∙ ap (run_end (classes.SheetText (sign "\"")) bs) goes ∙ more.0 ∙ ap (run_end (classes.SheetText (sign "\"")) bs) all,
        decoded_step bs i it.within ∙ ap (λ (xs : List ℕ). xs ++ decoded_rest bs (told_end bs i)) it.told ∙ ap (λ (k : ℕ). b ∷ decoded_rest bs k) it.ends
            ∙ ap (λ (xs : List ℕ). b ∷ xs) (more.1 ∙ ap (λ (k : ℕ). rest ++ decoded_rest bs k) all),
      )

pub stands_for : (text : List ℕ) → StandsFor text
unfolding decoded
stands_for text l =
    let es = escaped text in
    let here = here_both es 0 es (END ∷ []) (stands [] es) (byte_past es (0 + length es) (omega arith), tt) in
    (text_run es text 0 END l refl here).1 ∙ ap (λ (xs : List ℕ). text ++ xs) (decoded_past es (0 + length es) (omega arith)) ∙ append-nil text
