-- Digits with a unit are the same token before what goes on with no unit.
use Rattle.std.proofs.Common.{◌≡◌, ◌⊎◌, ◌≤◌, ◌<◌, ℕ, ◌+◌, Bool, true, false, not, ◌&&◌, ◌||◌, if◌then◌else◌, List, [], ◌∷◌, ◌++◌, length, inl, inr, refl, sym, ◌∙◌, ap, subst, arith, append_assoc, length-append}
use Rattle.std.specs.Prelude.{◌==◌, nat_lt}
use Rattle.std.specs.List.{list_all}
use Rattle.std.proofs.lemmas.Bool.Decides.{nat_tests}
use Rattle.sw_text_scan.specs.declared.runs.Class.TheVariants as classes
use Rattle.sw_text_scan.specs.Bytes.{sign, byte, is_white, is_digit, is_letter, starts_plainly}
use Rattle.sw_text_scan.specs.Runs.{next, run_end, escape_end, goes_in_unit, starts_at}
use Rattle.sw_text_scan.specs.Words.{fraction_end, exponent_end, is_exponent, is_plus_or_minus, unit_start, unit_end}
use Rattle.sw_text_scan.proofs.Bounds.{if_true, if_false, and_left, and_right, run_step, run_stop}
use Rattle.sw_text_locality.proofs.Written.{byte_before}
use Rattle.sw_tokens.specs.declared.pieces.Before.{Before}
use Rattle.sw_tokens.specs.declared.pieces.Change.TheVariants as changes
use Rattle.sw_tokens.specs.declared.skips.Inside.{Inside}
use Rattle.sw_tokens.specs.declared.token.TokenKind.TheVariants as kinds
use Rattle.sw_tokens.specs.Pieces.{made, piece, number_kind, number_piece}
use Rattle.sw_convert_spelling.specs.Spelt.{is_sheet_code}
use Rattle.sw_convert_spelling.proofs.MovedRuns as moved
use Rattle.sw_convert_spelling.proofs.Again as texts
use Rattle.sw_convert_spelling.proofs.Choices.{left_no, right_no, neither, both}
use Rattle.sw_convert_tokens.specs.Written.{is_calm}
use Rattle.sw_convert_texts.specs.Names.{in_unit, is_unit, digits_and_unit}
use Rattle.sw_convert_texts.proofs.DigitTokens.{digit_run, digit_white, number_token}

-- ---- bytes

start_digit : (b : ℕ) → starts_plainly b ≡ true → is_digit b ≡ false
start_digit b e = grind (arith, nat_tests)

start_dot : (b : ℕ) → starts_plainly b ≡ true → (b == sign ".") ≡ false
start_dot b e = grind (arith, nat_tests)

start_percent : (b : ℕ) → starts_plainly b ≡ true → (b == sign "%") ≡ false
start_percent b e = grind (arith, nat_tests)

letter_digit : (b : ℕ) → is_letter b ≡ true → is_digit b ≡ false
letter_digit b e = grind (arith, nat_tests)

letter_sign : (b : ℕ) → is_letter b ≡ true → is_plus_or_minus b ≡ false
letter_sign b e = grind (arith, nat_tests)

loosen : (a b c x y : Bool) → (a || (b || (c && x))) ≡ true → (x ≡ true → y ≡ true) → (a || (b || (c && y))) ≡ true
loosen true b c x y e f = refl
loosen false true c x y e f = refl
loosen false false true x y e f = f e
loosen false false false x y e f = e

-- ---- digits, and a unit behind them

pub record HasUnit (w : List ℕ) : Type 0 where
  pub digits : List ℕ
  pub unit : List ℕ
  pub same : w ≡ digits ++ unit
  pub all : list_all is_digit digits ≡ true
  pub is : is_unit unit ≡ true

pub cut_unit : (w : List ℕ) → digits_and_unit w ≡ true → (list_all is_digit w ≡ true) ⊎ HasUnit w
cut_unit [] e = inl refl
cut_unit (b ∷ w) e = go (is_digit b) refl e (cut_unit w)
  where
    step : is_digit b ≡ true → (list_all is_digit w ≡ true) ⊎ HasUnit w
        → (list_all is_digit (b ∷ w) ≡ true) ⊎ HasUnit (b ∷ w)
    step d (inl all) = inl (both (is_digit b) (list_all is_digit w) d all)
    step d (inr h) = inr (record {
      digits = b ∷ h.digits;
      unit = h.unit;
      same = ap (λ (t : List ℕ). b ∷ t) h.same;
      all = both (is_digit b) (list_all is_digit h.digits) d h.all;
      is = h.is;
    })

    go : (t : Bool) → is_digit b ≡ t → (if t then digits_and_unit w else is_unit (b ∷ w)) ≡ true
        → (digits_and_unit w ≡ true → (list_all is_digit w ≡ true) ⊎ HasUnit w)
        → (list_all is_digit (b ∷ w) ≡ true) ⊎ HasUnit (b ∷ w)
    go true d f more = step d (more f)
    go false d f more = inr (record { digits = []; unit = b ∷ w; same = refl; all = refl; is = f })

-- there is more than digits
pub not_all : (digits unit : List ℕ) → is_unit unit ≡ true → list_all is_digit (digits ++ unit) ≡ false
unfolding byte
not_all [] [] is = absurd (cc)
not_all [] (b ∷ unit) is =
    left_no (is_digit b) (list_all is_digit unit)
    (start_digit b (ap starts_plainly (sym (moved.first_byte b unit)) ∙ and_left (starts_plainly (byte (b ∷ unit) 0)) _ is))
not_all (d ∷ digits) unit is = right_no (is_digit d) (list_all is_digit (digits ++ unit)) (not_all digits unit is)

unit_some : (unit : List ℕ) → is_unit unit ≡ true → 0 < length unit
unfolding byte
unit_some [] is = absurd (cc)
unit_some (b ∷ unit) is = omega arith

letter_there : (unit : List ℕ) → is_unit unit ≡ true → is_letter (byte unit 1) ≡ true → 1 < length unit
unfolding byte
letter_there [] is e = absurd (cc)
letter_there (b ∷ []) is e = absurd (cc)
letter_there (b ∷ c ∷ unit) is e = omega arith

same_start : (unit after : List ℕ) → starts_plainly (byte unit 0) ≡ true → starts_plainly (byte (unit ++ after) 0) ≡ true
unfolding byte
same_start [] after e = absurd (cc)
same_start (b ∷ unit) after e = e

unit_run : (unit after : List ℕ) → in_unit unit ≡ true → next classes.Unit after 0 ≤ 0
    → run_end classes.Unit (unit ++ after) 0 ≡ length unit
unit_run [] after all stop = run_stop after classes.Unit 0 stop
unit_run (b ∷ unit) after all stop =
    let xs : List ℕ = b ∷ (unit ++ after) in
    let second : starts_plainly (byte (unit ++ after) 0) ≡ starts_plainly (byte xs 1) =
    ap starts_plainly (sym (moved.at_byte (b ∷ []) (unit ++ after) 0)) in
    let in_it : goes_in_unit xs 0 ≡ true =
    ap (λ (c : ℕ). starts_plainly c || (is_digit c || ((c == sign "-") && starts_plainly (byte xs 1)))) (moved.first_byte b (unit ++ after))
    ∙ loosen (starts_plainly b) (is_digit b) (b == sign "-") (starts_plainly (byte unit 0)) (starts_plainly (byte xs 1))
    (and_left (starts_plainly b || (is_digit b || ((b == sign "-") && starts_plainly (byte unit 0)))) _ all)
    (λ e. sym second ∙ same_start unit after e) in
    let goes : next classes.Unit xs 0 ≡ 1 = if_true (goes_in_unit xs 0) 1 (escape_end xs 0) in_it in
    sym (run_step xs classes.Unit 0 (omega (arith, goes))) ∙ ap (run_end classes.Unit xs) goes
    ∙ moved.run_moved (b ∷ []) (unit ++ after) classes.Unit 0
    ∙ ap (λ (n : ℕ). 1 + n)
    (unit_run unit after (and_right (starts_plainly b || (is_digit b || ((b == sign "-") && starts_plainly (byte unit 0)))) _ all) stop)
    ∙ (let z : 1 + length unit ≡ length (b ∷ unit) = omega arith in z)

-- ---- the number

module _ (digits unit after : List ℕ) (all : list_all is_digit digits ≡ true) (is : is_unit unit ≡ true) where
  abbrev xs : List ℕ
  xs = digits ++ (unit ++ after)

  abbrev d : ℕ
  d = length digits

  starts : starts_plainly (byte unit 0) ≡ true
  starts = and_left (starts_plainly (byte unit 0)) _ is

  rest : (not (is_exponent (byte unit 0) && not (is_letter (byte unit 1))) && in_unit unit) ≡ true
  rest = and_right (starts_plainly (byte unit 0)) _ is

  first : byte (unit ++ after) 0 ≡ byte unit 0
  first = byte_before unit after 0 (unit_some unit is)

  here : byte xs d ≡ byte unit 0
  here = texts.behind_first digits [] (unit ++ after) ∙ first

  there : byte xs (d + 1) ≡ byte (unit ++ after) 1
  there = texts.behind digits [] (unit ++ after) 1

  run : run_end classes.Digit xs 0 ≡ d
  run = digit_run digits (unit ++ after) all (ap is_digit first ∙ start_digit (byte unit 0) starts)

  letter : is_exponent (byte xs d) ≡ true → is_letter (byte xs (d + 1)) ≡ true
  letter e =
      let told = by (is_exponent (byte unit 0)) (is_letter (byte unit 1)) (ap is_exponent (sym here) ∙ e)
      (and_left (not (is_exponent (byte unit 0) && not (is_letter (byte unit 1)))) (in_unit unit) rest) in
      ap is_letter (there ∙ byte_before unit after 1 (letter_there unit is told)) ∙ told
    where
      by : (a b : Bool) → a ≡ true → not (a && not b) ≡ true → b ≡ true
      by true true e f = refl
      by true false e f = absurd (cc)
      by false b e f = absurd (cc)

  no_digit : (is_exponent (byte xs d) && is_digit (byte xs (d + 1))) ≡ false
  no_digit = go (is_exponent (byte xs d)) refl
    where
      go : (t : Bool) → is_exponent (byte xs d) ≡ t → (t && is_digit (byte xs (d + 1))) ≡ false
      go true e = letter_digit (byte xs (d + 1)) (letter e)
      go false e = refl

  no_sign : (is_exponent (byte xs d) && (is_plus_or_minus (byte xs (d + 1)) && is_digit (byte xs (d + 2)))) ≡ false
  no_sign = go (is_exponent (byte xs d)) refl
    where
      go : (t : Bool) → is_exponent (byte xs d) ≡ t
          → (t && (is_plus_or_minus (byte xs (d + 1)) && is_digit (byte xs (d + 2)))) ≡ false
      go true e = left_no (is_plus_or_minus (byte xs (d + 1))) _ (letter_sign (byte xs (d + 1)) (letter e))
      go false e = refl

  start_is : unit_start xs 0 ≡ d
  start_is =
      ap (λ (k : ℕ). exponent_end xs (fraction_end xs k)) run
      ∙ ap (exponent_end xs)
      (if_false ((byte xs d == sign ".") && is_digit (byte xs (d + 1))) (run_end classes.Digit xs (d + 1)) d
      (left_no (byte xs d == sign ".") _ (ap (λ (b : ℕ). b == sign ".") here ∙ start_dot (byte unit 0) starts)))
      ∙ if_false (is_exponent (byte xs d) && is_digit (byte xs (d + 1))) _ _ no_digit
      ∙ if_false (is_exponent (byte xs d) && (is_plus_or_minus (byte xs (d + 1)) && is_digit (byte xs (d + 2)))) _ _ no_sign

  percent : (byte xs d == sign "%") ≡ false
  percent = ap (λ (b : ℕ). b == sign "%") here ∙ start_percent (byte unit 0) starts

  end_is : unit_end xs d ≡ d + run_end classes.Unit (unit ++ after) 0
  end_is =
      if_false (byte xs d == sign "%") _ _ percent
      ∙ if_true (starts_plainly (byte xs d)) _ _ (ap starts_plainly here ∙ starts)
      ∙ ap (run_end classes.Unit xs) (let z : d ≡ d + 0 = omega arith in z)
      ∙ moved.run_moved digits (unit ++ after) classes.Unit 0

  same_number : (k : ℕ) → (k == k) ≡ true
  same_number k = grind (arith, nat_tests)

  -- the same before what goes on with no unit
  pub unit_number : next classes.Unit after 0 ≤ 0 → number_piece xs 0 ≡ made kinds.Digits (length (digits ++ unit)) changes.Keep
  unfolding number_piece
  unit_number stop =
      ap (λ (k : ℕ). made (number_kind xs k (unit_start xs 0)) (unit_end xs (unit_start xs 0)) changes.Keep) run
      ∙ ap (λ (k : ℕ). made (number_kind xs d k) (unit_end xs k) changes.Keep) start_is
      ∙ ap (λ (k : ℕ). made (number_kind xs d d) k changes.Keep)
      (end_is ∙ ap (λ (k : ℕ). d + k) (unit_run unit after (and_right (not _) (in_unit unit) rest) stop) ∙ sym (length-append digits unit))
      ∙ ap (λ k. made k (length (digits ++ unit)) changes.Keep)
      (if_true ((d == d) && not (byte xs d == sign "%")) kinds.Digits kinds.Number
      (both (d == d) _ (same_number d) (ap not percent)))

-- nothing goes on with a unit there
pub record NoUnit (after : List ℕ) : Type 0 where
  pub digit : is_digit (byte after 0) ≡ false
  pub starts : starts_at after 0 ≡ false
  pub goes : goes_in_unit after 0 ≡ false

pub no_unit : (after : List ℕ) → next classes.Unit after 0 ≤ 0 → NoUnit after
no_unit after stop = go (goes_in_unit after 0) refl
  where
    a_no : (a b c : Bool) → (a || (b || c)) ≡ false → a ≡ false
    a_no true b c e = e
    a_no false b c e = refl

    b_no : (a b c : Bool) → (a || (b || c)) ≡ false → b ≡ false
    b_no true b c e = absurd (cc)
    b_no false true c e = e
    b_no false false c e = refl

    zero_by : (m : ℕ) → m ≤ 0 → nat_lt 0 m ≡ false
    zero_by m l = grind (arith, nat_tests)

    go : (t : Bool) → goes_in_unit after 0 ≡ t → NoUnit after
    go true t = let on = if_true (goes_in_unit after 0) (0 + 1) (escape_end after 0) t in absurd (omega (arith, on, stop))
    go false t =
        let escape : escape_end after 0 ≤ 0 =
        subst (λ (m : ℕ). m ≤ 0) (if_false (goes_in_unit after 0) (0 + 1) (escape_end after 0) t) stop in record {
          goes = t;
          digit = b_no (starts_plainly (byte after 0)) (is_digit (byte after 0)) _ t;
          starts = neither (starts_plainly (byte after 0)) _ (a_no (starts_plainly (byte after 0)) (is_digit (byte after 0)) _ t)
              (zero_by (escape_end after 0) escape);
        }

-- ---- the token

pub unit_black : (w : List ℕ) → is_digit (byte w 0) ≡ true → is_white (byte w 0) ≡ false
unit_black w d = digit_white (byte w 0) d

pub unit_token : (w after : List ℕ) → (it : HasUnit w) → is_digit (byte w 0) ≡ true → 0 < length w → next classes.Unit after 0 ≤ 0
    → (inside : Inside) (before : Before) → is_sheet_code inside ≡ true → is_calm before ≡ true
    → piece (w ++ after) inside before 0 ≡ made kinds.Digits (length w) changes.Keep
unit_token w after it digit some stop =
    number_token (w ++ after) (length w) (ap is_digit (byte_before w after 0 some) ∙ digit)
    (ap (λ (t : List ℕ). number_piece t 0) (ap (λ (t : List ℕ). t ++ after) it.same ∙ append_assoc it.digits it.unit after)
    ∙ unit_number it.digits it.unit after it.all it.is stop
    ∙ ap (λ (t : List ℕ). made kinds.Digits (length t) changes.Keep) (sym it.same))
