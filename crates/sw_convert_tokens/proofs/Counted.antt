-- Numbers that stay as they stood.
use Rattle.std.proofs.Common.{◌≡◌, ◌≤◌, ◌<◌, ℕ, zero, suc, ◌+◌, ◌-◌, Bool, true, false, not, ◌&&◌, ◌||◌, if◌then◌else◌, List, [], ◌∷◌, ◌++◌, length, take, append-nil, append_assoc, length-append, ◌⊎◌, inl, inr, refl, sym, ◌∙◌, ap, subst, arith, lit<}
use Rattle.std.specs.Prelude.{◌==◌, codes, nat_lt}
use Rattle.std.specs.List.{list_all}
use Rattle.std.proofs.Math.Seq.{take-append_seam}
use Rattle.std.proofs.lemmas.Bool.Decides.{nat_tests}
use Rattle.sw_text_scan.specs.declared.runs.Class.TheVariants as classes
use Rattle.sw_text_scan.specs.Bytes.{sign, byte, is_white, is_quote, is_digit, starts_plainly, opens_at, begins_silent, begins_loud}
use Rattle.sw_text_scan.specs.Runs.{run_end, starts_at}
use Rattle.sw_text_scan.specs.Words.{fraction_end, is_exponent, is_plus_or_minus, exponent_end, unit_start, unit_end, begins_number}
use Rattle.sw_text_scan.proofs.Bounds.{byte_past, in_text, if_true, if_false, and_left, and_right, not_true, run_step, run_stop}
use Rattle.sw_text_locality.proofs.Characters.{escape_none}
use Rattle.sw_text_locality.proofs.Written.{byte_before}
use Rattle.sw_tokens.specs.declared.pieces.Before.{Before}
use Rattle.sw_tokens.specs.declared.pieces.Before.TheVariants as befores
use Rattle.sw_tokens.specs.declared.pieces.Change.TheVariants as changes
use Rattle.sw_tokens.specs.declared.skips.Inside.{Inside}
use Rattle.sw_tokens.specs.declared.skips.Inside.TheVariants as insides
use Rattle.sw_tokens.specs.declared.token.TokenKind.{TokenKind}
use Rattle.sw_tokens.specs.declared.token.TokenKind.TheVariants as kinds
use Rattle.sw_tokens.specs.Pieces.{made, piece, number_kind, number_piece, after_hash, is_hex_form, in_interpolation, word_piece, code_piece}
use Rattle.sw_tokens.specs.Tokens.{is_spaced}
use Rattle.sw_parse_terminals.specs.declared.terminal.Terminal.TheVariants as terminals
use Rattle.sw_parse_lexemes.specs.declared.sort.Sort.{Sort}
use Rattle.sw_parse_lexemes.specs.declared.sort.Sort.TheVariants as sorts
use Rattle.sw_parse_lexemes.specs.declared.state.Mode.{Mode}
use Rattle.sw_parse_lexemes.specs.Classes.{is_number}
use Rattle.sw_parse_lexemes.specs.Sorts.{sort_of}
use Rattle.sw_parse_table.specs.Sources.{bytes_between}
use Rattle.sw_convert_spelling.specs.Spelt.{is_sheet_code, behind_gap}
use Rattle.sw_convert_spelling.proofs.Again as texts
use Rattle.sw_convert_spelling.proofs.MovedRuns as moved
use Rattle.sw_convert_spelling.proofs.Choices.{left_no, both, neither}
use Rattle.sw_convert_written.specs.Escapes.{ends_unclosed}
use Rattle.sw_convert_passing.specs.Written.{written, direct}
use Rattle.sw_convert_again.specs.Tokens.{Bytes, tok}
use Rattle.sw_convert_again.specs.Tokens as again
use Rattle.sw_convert_again.proofs.Tokens.{one_byte}
use Rattle.sw_convert_tokens.specs.Joints.{Segment}
use Rattle.sw_convert_tokens.specs.Written.{Follows, begins_white, stops, gap_of, Shape, WrittenAs}
use Rattle.sw_convert_tokens.proofs.Stops.{Dark, stopped}
use Rattle.sw_convert_tokens.proofs.Unclosed.{follows_end, Ends}
use Rattle.sw_convert_tokens.proofs.Signs.{Fits, token_segment, sign_token}
use Rattle.sw_convert_tokens.proofs.Pairs.{pair_segment}
use Rattle.sw_convert_tokens.proofs.NumberPieces.{is_numeric, digits_alone, start_alone, OldUnit, old_unit}
use Rattle.sw_convert_tokens.proofs.NumberEnds.{no_point, name_exponent, unit_ends}
use Rattle.sw_convert_tokens.proofs.Numbers.{Quiet, quiet_unclosed, numeric_opens, numeric_seen, numeric_sort, numeric_behind, calm_hash}
use Rattle.sw_convert_tokens.proofs.Words.{bytes_sit}

-- a number with its unit and nothing else, of which no escape is part but in the unit
abbrev pub is_counted : List ℕ → Bool
is_counted text =
    begins_number text 0
    && ((unit_end text (unit_start text 0) == length text)
    && list_all (λ b. not (b == sign "\\")) (take (unit_start text 0) text))

-- what a number is to be told as, by itself and behind its sign
abbrev pub Numbered : Shape → Type 0
Numbered shape =
    (mode : Mode) (spaced : Bool) (sort : Sort) → is_number sort ≡ true
    → shape mode spaced (written sort spaced terminals.Number ∷ [])

abbrev pub Signed : Sort → Shape → Type 0
Signed own shape =
    (mode : Mode) (spaced : Bool) (sort : Sort) → is_number sort ≡ true
    → shape mode spaced (written own spaced terminals.Sign ∷ direct sort terminals.Number ∷ [])

-- the same behind a `-`
abbrev pub is_minus_counted : List ℕ → Bool
is_minus_counted [] = false
is_minus_counted (b ∷ text) = (b == sign "-") && is_counted text

-- and behind a `+`
abbrev pub is_plus_counted : List ℕ → Bool
is_plus_counted [] = false
is_plus_counted (b ∷ text) = (b == sign "+") && is_counted text

equal : (a b : ℕ) → (a == b) ≡ true → a ≡ b
equal a b e = grind (arith, nat_tests)

-- ---- the digits of a number end with its bytes

module _ (w after : List ℕ) (dark : Dark (byte after 0)) (point : ((byte after 0 == sign ".") && is_digit (byte after 1)) ≡ false) where
  abbrev cs : List ℕ
  cs = w ++ after

  abbrev n : ℕ
  n = length w

  here : byte cs n ≡ byte after 0
  here = texts.behind_first w [] after

  behind : byte cs (n + 1) ≡ byte after 1
  behind = moved.at_byte w after 1

  -- what isn't there behind the bytes stands within them
  inner : (f : ℕ → Bool) (k : ℕ) → k ≤ n → f (byte after 0) ≡ false → f (byte cs k) ≡ true → k < n
  inner f k l dark_is there = elim (texts.lt_or_le k n) [
    | inl lt ↦ lt
    | inr past ↦ absurd (let place : n ≡ k = omega (arith, l, past) in
        let wrong : true ≡ false = sym there ∙ ap (λ (x : ℕ). f (byte cs x)) (sym place) ∙ ap f here ∙ dark_is in cc)
  ]

  digits_within : (f i : ℕ) → n ≡ f + i → run_end classes.Digit cs i ≤ n
  digits_within zero i e =
      let place : n ≡ i = omega (arith, e) in
      let none = if_false (is_digit (byte cs i)) (i + 1) i (ap (λ (k : ℕ). is_digit (byte cs k)) (sym place) ∙ ap is_digit here ∙ dark.digit) in
      let stays = run_stop cs classes.Digit i (omega (arith, none)) in omega (arith, stays, place)
  digits_within (suc f) i e = go (is_digit (byte cs i)) refl (digits_within f (i + 1) (omega (arith, e)))
    where
      go : (t : Bool) → is_digit (byte cs i) ≡ t → run_end classes.Digit cs (i + 1) ≤ n → run_end classes.Digit cs i ≤ n
      go true t more =
          let on = if_true (is_digit (byte cs i)) (i + 1) i t in
          let step = run_step cs classes.Digit i (omega (arith, on)) in
          let same = ap (run_end classes.Digit cs) on in omega (arith, step, same, more)
      go false t more =
          let none = if_false (is_digit (byte cs i)) (i + 1) i t in
          let stays = run_stop cs classes.Digit i (omega (arith, none)) in omega (arith, stays, e)

  digits_to : (i : ℕ) → i ≤ n → run_end classes.Digit cs i ≤ n
  digits_to i l = digits_within (n - i) i (omega (arith, l))

  fraction_within : (d : ℕ) → d ≤ n → fraction_end cs d ≤ n
  fraction_within d l = go ((byte cs d == sign ".") && is_digit (byte cs (d + 1))) refl (texts.lt_or_le d n)
    where
      go : (t : Bool) → ((byte cs d == sign ".") && is_digit (byte cs (d + 1))) ≡ t → (d < n) ⊎ (n ≤ d)
          → (if t then run_end classes.Digit cs (d + 1) else d) ≤ n
      go true t (inl lt) = digits_to (d + 1) (omega (arith, lt))
      go true t (inr past) =
          let place : n ≡ d = omega (arith, l, past) in
          absurd (let wrong : true ≡ false =
          sym t ∙ ap (λ (k : ℕ). (byte cs k == sign ".") && is_digit (byte cs (k + 1))) (sym place)
          ∙ ap (λ (b : ℕ). (b == sign ".") && is_digit (byte cs (n + 1))) here
          ∙ ap (λ (b : ℕ). (byte after 0 == sign ".") && is_digit b) behind ∙ point in cc)
      go false t side = l

  exponent_within : (e : ℕ) → e ≤ n → exponent_end cs e ≤ n
  exponent_within e l =
      go (is_exponent (byte cs e) && is_digit (byte cs (e + 1))) refl
      (is_exponent (byte cs e) && (is_plus_or_minus (byte cs (e + 1)) && is_digit (byte cs (e + 2)))) refl
    where
      within : is_exponent (byte cs e) ≡ true → e < n
      within x = inner is_exponent e l (name_exponent (byte after 0) dark.name) x

      go : (t : Bool) → (is_exponent (byte cs e) && is_digit (byte cs (e + 1))) ≡ t
          → (u : Bool) → (is_exponent (byte cs e) && (is_plus_or_minus (byte cs (e + 1)) && is_digit (byte cs (e + 2)))) ≡ u
          → (if t then run_end classes.Digit cs (e + 1) else (if u then run_end classes.Digit cs (e + 2) else e)) ≤ n
      go true t u v = let lt = within (and_left (is_exponent (byte cs e)) _ t) in digits_to (e + 1) (omega (arith, lt))
      go false t true v =
          let lt = within (and_left (is_exponent (byte cs e)) _ v) in
          let next_lt = inner is_plus_or_minus (e + 1) (omega (arith, lt)) dark.sign_before
          (and_left (is_plus_or_minus (byte cs (e + 1))) _ (and_right (is_exponent (byte cs e)) _ v)) in
          digits_to (e + 2) (omega (arith, next_lt))
      go false t false v = l

  start_within : unit_start cs 0 ≤ n
  start_within =
      exponent_within (fraction_end cs (run_end classes.Digit cs 0))
      (fraction_within (run_end classes.Digit cs 0) (digits_to 0 (omega arith)))

  start_same : unit_start cs 0 ≡ unit_start w 0
  start_same = sym (start_alone w after start_within)

  digits_same : run_end classes.Digit cs 0 ≡ run_end classes.Digit w 0
  digits_same =
      sym (digits_alone w after n 0 (run_end classes.Digit cs 0) (omega arith) refl (digits_to 0 (omega arith)))

  percent_same : (k : ℕ) → k ≤ n → (byte cs k == sign "%") ≡ (byte w k == sign "%")
  percent_same k l = elim (texts.lt_or_le k n) [
    | inl lt ↦ ap (λ (b : ℕ). b == sign "%") (byte_before w after k lt)
    | inr past ↦ (let place : n ≡ k = omega (arith, l, past) in
        ap (λ (x : ℕ). byte cs x == sign "%") (sym place) ∙ ap (λ (b : ℕ). b == sign "%") here ∙ dark.percent
        ∙ sym (ap (λ (b : ℕ). b == sign "%") (byte_past w k past)))
  ]

  kind_same : number_kind cs (run_end classes.Digit cs 0) (unit_start cs 0)
      ≡ number_kind w (run_end classes.Digit w 0) (unit_start w 0)
  kind_same =
      let within = start_within in
      let same = start_same in
      ap (λ (k : ℕ). number_kind cs k (unit_start cs 0)) digits_same
      ∙ ap (number_kind cs (run_end classes.Digit w 0)) same
      ∙ ap (λ (t : Bool). if (run_end classes.Digit w 0 == unit_start w 0) && not t then kinds.Digits else kinds.Number)
      (percent_same (unit_start w 0) (omega (arith, within, same)))

-- ---- a number that ends with its bytes

number_first : (b : ℕ) → (is_digit b || (b == sign ".")) ≡ true
    → (is_white b ≡ false) × (is_quote b ≡ false) × ((b == sign "#") ≡ false) × ((b == sign "}") ≡ false) × ((b == sign "/") ≡ false)
number_first b e = (grind (arith, nat_tests), grind (arith, nat_tests), grind (arith, nat_tests), grind (arith, nat_tests), grind (arith, nat_tests))

loosen : (a c d : Bool) → (a || (c && d)) ≡ true → (a || c) ≡ true
loosen true c d e = refl
loosen false true d e = refl
loosen false false d e = e

minus_ends : Ends (sign "-")
minus_ends = record { slash = refl; digit = refl }

plus_ends : Ends (sign "+")
plus_ends = record { slash = refl; digit = refl }

quiet_all : (xs : List ℕ) → list_all (λ b. not (b == sign "\\")) xs ≡ true → Quiet xs
quiet_all [] e = tt
quiet_all (x ∷ xs) e = (not_true (x == sign "\\") (and_left (not (x == sign "\\")) _ e), quiet_all xs (and_right (not (x == sign "\\")) _ e))

some_byte : (xs : List ℕ) → (is_digit (byte xs 0) || (byte xs 0 == sign ".")) ≡ true → 0 < length xs
unfolding byte
some_byte [] e = absurd (cc)
some_byte (x ∷ xs) e = omega arith

module _ (w : List ℕ) (counts : is_counted w ≡ true) where
  abbrev pub kind : TokenKind
  kind = number_kind w (run_end classes.Digit w 0) (unit_start w 0)

  pub numeric : is_numeric kind ≡ true
  numeric = go ((run_end classes.Digit w 0 == unit_start w 0) && not (byte w (unit_start w 0) == sign "%"))
    where
      go : (t : Bool) → is_numeric (if t then kinds.Digits else kinds.Number) ≡ true
      go true = refl
      go false = refl

  first : (is_digit (byte w 0) || (byte w 0 == sign ".")) ≡ true
  first = loosen (is_digit (byte w 0)) (byte w 0 == sign ".") _ (and_left (begins_number w 0) _ counts)

  pub some : 0 < length w
  some = some_byte w first

  pub black : is_white (byte w 0) ≡ false
  black = (number_first (byte w 0) first).0

  -- its unit, which ends with it
  unit_of : OldUnit w
  unit_of =
      old_unit w []
      (ap (λ (t : List ℕ). unit_end t (unit_start t 0)) (append-nil w)
      ∙ equal (unit_end w (unit_start w 0)) (length w)
      (and_left (unit_end w (unit_start w 0) == length w) _ (and_right (begins_number w 0) _ counts)))

  module _ (after : List ℕ) (stop : stops after ≡ true) (closed : (begins_white after && ends_unclosed unit_of.unit) ≡ false) where
    dark : Dark (byte after 0)
    dark = stopped after stop

    point : ((byte after 0 == sign ".") && is_digit (byte after 1)) ≡ false
    point = no_point after stop

    ends : unit_end (w ++ after) (unit_start (w ++ after) 0) ≡ length w
    ends =
        let it = unit_of in
        let unit_ends_here : unit_end (it.unit ++ after) 0 ≡ length it.unit =
        equal (unit_end (it.unit ++ after) 0) (length it.unit)
        (and_right _ (unit_end (it.unit ++ after) 0 == length it.unit)
        (and_right (not ((byte (it.unit ++ after) 0 == sign ".") && is_digit (byte (it.unit ++ after) 1))) _
        (and_right (not (is_digit (byte (it.unit ++ after) 0))) _
        (unit_ends it.unit it.old after it.ends stop (record { dark = dark; closed = closed }))))) in
        let moved_end = moved.unit_moved it.front (it.unit ++ after) 0 in
        let long = length-append it.front it.unit in
        let whole = ap length it.split in
        ap (unit_end (w ++ after)) (start_same w after dark point ∙ it.start)
        ∙ ap (λ (t : List ℕ). unit_end t (length it.front))
        (ap (λ (t : List ℕ). t ++ after) it.split ∙ append_assoc it.front it.unit after)
        ∙ ap (unit_end (it.front ++ (it.unit ++ after))) (let z : length it.front ≡ length it.front + 0 = omega arith in z)
        ∙ (let z : unit_end (it.front ++ (it.unit ++ after)) (length it.front + 0) ≡ length w =
        omega (arith, moved_end, unit_ends_here, long, whole) in z)

    counted_here : number_piece (w ++ after) 0 ≡ made kind (length w) changes.Keep
    unfolding number_piece
    counted_here =
        ap (λ (k : TokenKind). made k (unit_end (w ++ after) (unit_start (w ++ after) 0)) changes.Keep) (kind_same w after dark point)
        ∙ ap (λ (k : ℕ). made kind k changes.Keep) ends

    begins_here : begins_number (w ++ after) 0 ≡ true
    begins_here = begun (and_left (begins_number w 0) _ counts)
      where
        or_more : (a b : Bool) → b ≡ true → (a || b) ≡ true
        or_more true b e = refl
        or_more false b e = e

        zero_is : byte (w ++ after) 0 ≡ byte w 0
        zero_is = byte_before w after 0 some

        either_true : (a b : Bool) → a ≡ true → (a || b) ≡ true
        either_true true b e = refl
        either_true false b e = absurd (cc)

        second : (k : ℕ) → is_digit (byte w k) ≡ true → is_digit (byte (w ++ after) k) ≡ true
        second k e = ap is_digit (byte_before w after k (in_text is_digit w k refl e)) ∙ e

        begun : begins_number w 0 ≡ true → begins_number (w ++ after) 0 ≡ true
        begun e = go (is_digit (byte w 0)) refl e
          where
            go : (t : Bool) → is_digit (byte w 0) ≡ t → (t || ((byte w 0 == sign ".") && is_digit (byte w 1))) ≡ true
                → begins_number (w ++ after) 0 ≡ true
            go true t f = either_true (is_digit (byte (w ++ after) 0)) _ (ap is_digit zero_is ∙ t)
            go false t f =
                or_more (is_digit (byte (w ++ after) 0)) _
                (both (byte (w ++ after) 0 == sign ".") _ (ap (λ (b : ℕ). b == sign ".") zero_is ∙ and_left (byte w 0 == sign ".") _ f)
                (second 1 (and_right (byte w 0 == sign ".") _ f)))

    counted_code : (top : Inside) (before : Before) → after_hash before ≡ false
        → code_piece (w ++ after) top before 0 ≡ made kind (length w) changes.Keep
    unfolding code_piece word_piece
    counted_code top before hash =
        let bs = w ++ after in
        let zero_is = byte_before w after 0 some in
        let (white, quote, hash_sign, brace, slash) =
        number_first (byte bs 0) (ap (λ (b : ℕ). is_digit b || (b == sign ".")) zero_is ∙ first) in
        if_false (is_white (byte bs 0)) _ _ white
        ∙ if_false (is_quote (byte bs 0)) _ _ quote
        ∙ if_false (opens_at bs 0) _ _ (left_no (byte bs 0 == sign "#") _ hash_sign)
        ∙ if_false ((byte bs 0 == sign "}") && in_interpolation top) _ _ (left_no (byte bs 0 == sign "}") _ brace)
        ∙ if_false (begins_silent bs 0) _ _ (left_no (byte bs 0 == sign "/") _ slash)
        ∙ if_false (begins_loud bs 0) _ _ (left_no (byte bs 0 == sign "/") _ slash)
        ∙ if_false (after_hash before && is_hex_form bs 0) _ _ (left_no (after_hash before) _ hash)
        ∙ if_true (begins_number bs 0) _ _ begins_here
        ∙ counted_here

    counted_token : (inside : Inside) (before : Before) → is_sheet_code inside ≡ true → after_hash before ≡ false
        → piece (w ++ after) inside before 0 ≡ made kind (length w) changes.Keep
    counted_token insides.Sheet before code hash = counted_code insides.Sheet before hash
    counted_token insides.Interpolation before code hash = counted_code insides.Interpolation before hash
    counted_token _ before code hash = absurd (cc)

  -- what stands behind the number stands behind its unit
  unclosed_same : ends_unclosed w ≡ ends_unclosed unit_of.unit
  unclosed_same =
      let it = unit_of in
      let start : take (unit_start w 0) w ≡ it.front =
      ap (λ (k : ℕ). take k w) it.start ∙ ap (take (length it.front)) it.split ∙ take-append_seam it.front it.unit in
      ap ends_unclosed it.split
      ∙ quiet_unclosed it.front it.unit
      (quiet_all it.front
      (ap (list_all (λ b. not (b == sign "\\"))) (sym start)
      ∙ and_right (unit_end w (unit_start w 0) == length w) _ (and_right (begins_number w 0) _ counts)))

  unit_closed : (after : List ℕ) → Follows w after → (begins_white after && ends_unclosed unit_of.unit) ≡ false
  unit_closed after f = ap (λ (t : Bool). begins_white after && t) (sym unclosed_same) ∙ f.closed

  pub number_at : (after : List ℕ) → Follows w after → (inside : Inside) (before : Before) → is_sheet_code inside ≡ true
      → after_hash before ≡ false → piece (w ++ after) inside before 0 ≡ made kind (length w) changes.Keep
  number_at after f inside before code hash = counted_token after f.stop (unit_closed after f) inside before code hash

  number_fits : (after : List ℕ) → Fits kinds.Minus (w ++ after)
  unfolding byte
  number_fits after =
      let bs = w ++ after in
      let there = ap (λ (b : ℕ). is_digit b || (b == sign ".")) (byte_before w after 0 some) ∙ first in
      ap (λ (x : Bool). not (x || false) && true)
      (neither (starts_at bs 0) _
      (neither (starts_plainly (byte bs 0)) _ (no_letter (byte bs 0) there)
      (ap (nat_lt 0) (escape_none bs 0 (no_slash (byte bs 0) there))))
      (no_dash (byte bs 0) there))
    where
      no_letter : (b : ℕ) → (is_digit b || (b == sign ".")) ≡ true → starts_plainly b ≡ false
      no_letter b e = grind (arith, nat_tests)

      no_slash : (b : ℕ) → (is_digit b || (b == sign ".")) ≡ true → (b == sign "\\") ≡ false
      no_slash b e = grind (arith, nat_tests)

      no_dash : (b : ℕ) → (is_digit b || (b == sign ".")) ≡ true → (b == sign "-") ≡ false
      no_dash b e = grind (arith, nat_tests)

  pub number_stays : {shape : Shape} → Numbered shape → WrittenAs shape w (tok terminals.Number (Bytes 1 w) ∷ [])
  number_stays says before spaced calm = record {
    passed = _;
    segment = subst
        (λ (end : Before). Segment before (gap_of spaced ++ w) (tok terminals.Number (Bytes 1 w) ∷ []) (written (sort_of kind w) (is_spaced (behind_gap before (gap_of spaced))) terminals.Number ∷ []) end (Follows w))
        (numeric_behind kind numeric)
        (token_segment kind w (terminals.Number ∷ []) (Bytes 1 w) before spaced (Follows w) (numeric_opens kind numeric)
        (numeric_seen kind w numeric) black some
        (λ new commented at front after sits. one_byte new at ∙ bytes_sit new commented at front _ after sits)
        (λ inside after code f.
        counted_token after f.stop (unit_closed after f) inside (behind_gap before (gap_of spaced)) code
        (calm_hash (behind_gap before (gap_of spaced)) calm)));
    told = λ mode free. says mode (is_spaced (behind_gap before (gap_of spaced))) (sort_of kind w) (numeric_sort kind w numeric);
  }

  signed_stays : {shape : Shape} → Signed sorts.Minus shape
      → WrittenAs shape (codes "-" ++ w) (tok terminals.Sign (Bytes 2 (codes "-" ++ w)) ∷ again.sign terminals.Number ∷ [])
  unfolding byte
  signed_stays says before spaced calm =
      let text = codes "-" ++ w in record {
        passed = _;
        segment = subst
            (λ (end : Before). Segment before (gap_of spaced ++ text) (tok terminals.Sign (Bytes 2 text) ∷ again.sign terminals.Number ∷ []) (written (sort_of kinds.Minus (codes "-")) (is_spaced (behind_gap before (gap_of spaced))) terminals.Sign ∷ direct (sort_of kind w) terminals.Number ∷ []) end (Follows text))
            (numeric_behind kind numeric)
            (pair_segment kinds.Minus kind (codes "-") w (terminals.Sign ∷ []) (terminals.Number ∷ []) (Bytes 2 text) before spaced
            (Follows text) refl (numeric_opens kind numeric) refl (numeric_seen kind w numeric) refl (lit< tt) some
            (λ new at same. ap (bytes_between new at) (let z : at + 2 ≡ suc (suc at) = omega arith in z) ∙ same)
            (λ inside after code f.
            sign_token kinds.Minus (w ++ after) inside (behind_gap before (gap_of spaced)) refl code calm (number_fits after))
            (λ inside after code f.
            let g = follows_end [] w (sign "-") minus_ends after f in
            counted_token after g.stop (unit_closed after g) inside befores.Other code refl));
        told = λ mode free. says mode (is_spaced (behind_gap before (gap_of spaced))) (sort_of kind w) (numeric_sort kind w numeric);
      }

  positive_stays : {shape : Shape} → Signed sorts.Plus shape
      → WrittenAs shape (codes "+" ++ w) (tok terminals.Sign (Bytes 2 (codes "+" ++ w)) ∷ again.sign terminals.Number ∷ [])
  unfolding byte
  positive_stays says before spaced calm =
      let text = codes "+" ++ w in record {
        passed = _;
        segment = subst
            (λ (end : Before). Segment before (gap_of spaced ++ text) (tok terminals.Sign (Bytes 2 text) ∷ again.sign terminals.Number ∷ []) (written (sort_of kinds.Plus (codes "+")) (is_spaced (behind_gap before (gap_of spaced))) terminals.Sign ∷ direct (sort_of kind w) terminals.Number ∷ []) end (Follows text))
            (numeric_behind kind numeric)
            (pair_segment kinds.Plus kind (codes "+") w (terminals.Sign ∷ []) (terminals.Number ∷ []) (Bytes 2 text) before spaced
            (Follows text) refl (numeric_opens kind numeric) refl (numeric_seen kind w numeric) refl (lit< tt) some
            (λ new at same. ap (bytes_between new at) (let z : at + 2 ≡ suc (suc at) = omega arith in z) ∙ same)
            (λ inside after code f.
            sign_token kinds.Plus (w ++ after) inside (behind_gap before (gap_of spaced)) refl code calm refl)
            (λ inside after code f.
            let g = follows_end [] w (sign "+") plus_ends after f in
            counted_token after g.stop (unit_closed after g) inside befores.Other code refl));
        told = λ mode free. says mode (is_spaced (behind_gap before (gap_of spaced))) (sort_of kind w) (numeric_sort kind w numeric);
      }

pub minus_stays : {shape : Shape} → Signed sorts.Minus shape → (text : List ℕ) → is_minus_counted text ≡ true
    → WrittenAs shape text (tok terminals.Sign (Bytes 2 text) ∷ again.sign terminals.Number ∷ [])
minus_stays says [] e = absurd (cc)
minus_stays {shape} says (b ∷ w) e =
    subst
    (λ (x : ℕ). WrittenAs shape (x ∷ w) (tok terminals.Sign (Bytes 2 (x ∷ w)) ∷ again.sign terminals.Number ∷ []))
    (is_minus b (and_left (b == sign "-") _ e)) (signed_stays w (and_right (b == sign "-") _ e) says)
  where
    is_minus : (c : ℕ) → (c == sign "-") ≡ true → sign "-" ≡ c
    is_minus c f = grind (arith, nat_tests)

pub plus_stays : {shape : Shape} → Signed sorts.Plus shape → (text : List ℕ) → is_plus_counted text ≡ true
    → WrittenAs shape text (tok terminals.Sign (Bytes 2 text) ∷ again.sign terminals.Number ∷ [])
plus_stays says [] e = absurd (cc)
plus_stays {shape} says (b ∷ w) e =
    subst
    (λ (x : ℕ). WrittenAs shape (x ∷ w) (tok terminals.Sign (Bytes 2 (x ∷ w)) ∷ again.sign terminals.Number ∷ []))
    (is_plus b (and_left (b == sign "+") _ e)) (positive_stays w (and_right (b == sign "+") _ e) says)
  where
    is_plus : (c : ℕ) → (c == sign "+") ≡ true → sign "+" ≡ c
    is_plus c f = grind (arith, nat_tests)
