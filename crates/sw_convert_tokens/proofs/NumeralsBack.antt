-- What is written of a number is read as the number.
use Rattle.std.proofs.Common.{◌≡◌, ◌≤◌, ℕ, zero, suc, ◌+◌, ◌%◌, Bool, true, false, not, ◌&&◌, ◌||◌, if◌then◌else◌, List, [], ◌∷◌, ◌++◌, length, Option, Some, None, Ok, Err, ℤ, pos, negsuc, append-nil, length-append, refl, sym, ◌∙◌, ap, arith, lit≤}
use Rattle.std.specs.Prelude.{◌==◌, codes, slice_range, nat_le}
use Rattle.std.proofs.lemmas.Bool.Decides.{nat_tests}
use Rattle.sw_fixed.specs.Arithmetic.{scale, limit, signed, IsWithin}
use Rattle.sw_fixed.specs.Reading.{AreDigits, is_empty, mantissa_of, held_magnitude, value_of, number_in, has_minus, after_sign, digits_of, decimals_of, after_digits, after_decimals, exponent_of}
use Rattle.sw_fixed.specs.Text.{fraction_text}
use Rattle.sw_fixed.specs.declared.fault.ReadFault.TheVariants.{NumberRange, NotNumber}
use Rattle.sw_text_scan.specs.declared.runs.Class.TheVariants as classes
use Rattle.sw_text_scan.specs.Bytes.{sign, byte, is_digit}
use Rattle.sw_text_scan.specs.Runs.{run_end}
use Rattle.sw_text_scan.specs.Words.{fraction_end, exponent_end, unit_start}
use Rattle.sw_text_scan.proofs.Bounds.{if_false, and_left, not_true}
use Rattle.sw_tree.specs.declared.expr.Number.{Number}
use Rattle.sw_parse_table.specs.Numerals.{sign_length, unit_from, within_bound, numeral}
use Rattle.sw_convert_spelling.specs.Numerals.{begins_exponent, no_exponent, value_text, numeral_text, ends_number}
use Rattle.sw_convert_spelling.proofs.MovedRuns as moved
use Rattle.sw_convert_spelling.proofs.NumeralTokens as tokens
use Rattle.sw_convert_spelling.proofs.Numerals.{read_back}
use Rattle.sw_convert_written.specs.Names.{number_text}
use Rattle.sw_convert_tokens.proofs.Laid.{range_behind}

-- ---- the value of a number that was read is within the bound

-- within the bound where there is one
abbrev pub IsSmall : Option ℤ → Type 0
IsSmall (Some z) = IsWithin z
IsSmall None = Unit {0}

signed_small : (negative : Bool) (n : ℕ) → n ≤ limit → IsSmall (Some (signed negative n))
signed_small false n l = l
signed_small true zero l = l
signed_small true (suc n) l = l

held_small : (negative : Bool) (n : ℕ) → IsSmall (within_bound (held_magnitude negative n))
held_small negative n = go (nat_le n limit) refl
  where
    go : (t : Bool) → nat_le n limit ≡ t → IsSmall (within_bound (if t then Ok (signed negative n) else Err NumberRange))
    go true t = signed_small negative n (grind (arith, nat_tests))
    go false t = tt

option_cases : {A : Type 0} (P : Option A → Type 0) (o : Option A) → P None → ((x : A) → P (Some x)) → P o
option_cases P None none some = none
option_cases P (Some x) none some = some x

held_by : (negative t : Bool) (n : ℕ) → IsSmall (within_bound (if t then Err NotNumber else held_magnitude negative n))
held_by negative true n = tt
held_by negative false n = held_small negative n

value_small : (negative : Bool) (whole decimals text : List ℕ)
    → IsSmall (within_bound (value_of negative whole decimals (exponent_of text)))
value_small negative whole decimals text =
    option_cases (λ o. IsSmall (within_bound (value_of negative whole decimals o))) (exponent_of text) tt
    (λ x. held_by negative (is_empty whole && is_empty decimals) (mantissa_of whole decimals x))

pub numeral_small : (text : List ℕ) → IsSmall (numeral text).value
unfolding numeral
numeral_small text =
    let it = slice_range text 0 (unit_from text) in
    let body = after_sign it in
    value_small (has_minus it) (digits_of body) (decimals_of (after_digits body)) (after_decimals (after_digits body))

-- ---- the parts of a text

pub numeral_parts : (value unit : List ℕ) → unit_from (value ++ unit) ≡ length value
    → numeral (value ++ unit) ≡ record { value = within_bound (number_in value); unit = unit }
unfolding numeral
numeral_parts value unit from =
    let text = value ++ unit in
    let front : slice_range text 0 (unit_from text) ≡ value =
    ap (slice_range text 0) (from ∙ (let z : length value ≡ 0 + length value = omega arith in z)) ∙ range_behind [] value unit in
    let behind : slice_range text (unit_from text) (length text) ≡ unit =
    ap (λ (k : ℕ). slice_range text k (length text)) from
    ∙ ap (slice_range text (length value)) (length-append value unit)
    ∙ ap (λ (t : List ℕ). slice_range (value ++ t) (length value) (length value + length unit)) (sym (append-nil unit))
    ∙ range_behind value unit [] in
    ap (λ (t : List ℕ). record { value = within_bound (number_in t); unit = slice_range text (unit_from text) (length text) }) front
    ∙ ap (λ (t : List ℕ). record { value = within_bound (number_in value); unit = t }) behind

-- digits have no sign before them
pub unsigned_length : (xs : List ℕ) → is_digit (byte xs 0) ≡ true → sign_length xs ≡ 0
unfolding byte
unsigned_length [] e = refl
unsigned_length (b ∷ xs) e = if_false ((b == 43) || (b == 45)) 1 0 (no_sign b e)
  where
    no_sign : (b : ℕ) → is_digit b ≡ true → ((b == 43) || (b == 45)) ≡ false
    no_sign b e = grind (arith, nat_tests)

-- ---- values within the bound

module _ (n : ℕ) (unit : List ℕ) (within : n ≤ limit) (ends : ends_number unit [] ≡ true) where
  abbrev value : List ℕ
  value = value_text (Some (pos n)) unit

  text_is : value ++ unit ≡ tokens.text n unit [] within ends
  text_is = sym (append-nil (value ++ unit)) ∙ tokens.text_is n unit [] within ends

  value_long : length (tokens.digits n unit [] within ends) + tokens.more n unit [] within ends ≡ length value
  value_long =
      let e = begins_exponent unit in
      let digits = tokens.digits n unit [] within ends in
      let a = length-append (digits ++ fraction_text (n % scale)) (no_exponent e) in
      let b = length-append digits (fraction_text (n % scale)) in
      omega (arith, a, b)

  pub start_back : unit_start (value ++ unit) 0 ≡ length value
  start_back = ap (λ (t : List ℕ). unit_start t 0) text_is ∙ tokens.start_is n unit [] within ends ∙ value_long

  pub first_digit : is_digit (byte (value ++ unit) 0) ≡ true
  first_digit = ap (λ (t : List ℕ). is_digit (byte t 0)) text_is ∙ tokens.first_is n unit [] within ends

  positive_back : numeral (value ++ unit) ≡ record { value = Some (pos n); unit = unit }
  positive_back =
      numeral_parts value unit (ap (unit_start (value ++ unit)) (unsigned_length (value ++ unit) first_digit) ∙ start_back)
      ∙ ap (λ r. record { value = within_bound r; unit = unit }) (read_back (Some (pos n)) unit within)

negative_back : (n : ℕ) (unit : List ℕ) → suc n ≤ limit → ends_number unit [] ≡ true
    → numeral (value_text (Some (negsuc n)) unit ++ unit) ≡ record { value = Some (negsuc n); unit = unit }
negative_back n unit within ends =
    let rest = value_text (Some (pos (suc n))) unit in
    numeral_parts (value_text (Some (negsuc n)) unit) unit
    (moved.start_moved (sign "-" ∷ []) (rest ++ unit) 0
    ∙ ap (λ (k : ℕ). 1 + k) (start_back (suc n) unit within ends)
    ∙ (let z : 1 + length rest ≡ length (sign "-" ∷ rest) = omega arith in z))
    ∙ ap (λ r. record { value = within_bound r; unit = unit }) (read_back (Some (negsuc n)) unit within)

-- ---- values beyond it

pub no_more_digit : (unit after : List ℕ) → ends_number unit after ≡ true → is_digit (byte (unit ++ after) 0) ≡ false
no_more_digit unit after ends = not_true _ (and_left (not (is_digit (byte (unit ++ after) 0))) _ ends)

module _ (tail : List ℕ) (no_digit : is_digit (byte tail 0) ≡ false) where
  abbrev pub beyond : List ℕ
  beyond = codes "1e28" ++ tail

  pub beyond_digits : run_end classes.Digit (codes "1e28" ++ tail) 0 ≡ 1
  unfolding AreDigits byte
  beyond_digits = tokens.digit_run (codes "1") (codes "e28" ++ tail) (lit≤ tt, lit≤ tt, tt) refl

  power : exponent_end (codes "e28" ++ tail) 0 ≡ 3
  unfolding AreDigits byte
  power =
      moved.run_moved (codes "e") (codes "28" ++ tail) classes.Digit 0
      ∙ ap (λ (n : ℕ). 1 + n)
      (tokens.digit_run (codes "28") tail (lit≤ tt, lit≤ tt, (lit≤ tt, lit≤ tt, tt)) no_digit)

  pub beyond_start : unit_start (codes "1e28" ++ tail) 0 ≡ 4
  unfolding byte
  beyond_start =
      ap (λ (k : ℕ). exponent_end (codes "1e28" ++ tail) (fraction_end (codes "1e28" ++ tail) k)) beyond_digits
      ∙ moved.exponent_moved (codes "1") (codes "e28" ++ tail) 0
      ∙ ap (λ (n : ℕ). 1 + n) power

beyond_back : (unit : List ℕ) → ends_number unit [] ≡ true
    → numeral (value_text None unit ++ unit) ≡ record { value = None; unit = unit }
beyond_back unit ends =
    numeral_parts (value_text None unit) unit
    (beyond_start unit
    (ap (λ (t : List ℕ). is_digit (byte t 0)) (sym (append-nil unit)) ∙ no_more_digit unit [] ends))
    ∙ ap (λ r. record { value = within_bound r; unit = unit }) (read_back None unit)

-- ---- all

pub numeral_back : (number : Number) → IsSmall number.value → ends_number number.unit [] ≡ true
    → numeral (number_text number) ≡ number
numeral_back number small ends = go number.value refl small
  where
    go : (value : Option ℤ) → number.value ≡ value → IsSmall value → numeral (numeral_text number.value number.unit) ≡ number
    go (Some (pos n)) e within =
        ap (λ (v : Option ℤ). numeral (numeral_text v number.unit)) e ∙ positive_back n number.unit within ends
        ∙ ap (λ (v : Option ℤ). record { value = v; unit = number.unit }) (sym e)
    go (Some (negsuc n)) e within =
        ap (λ (v : Option ℤ). numeral (numeral_text v number.unit)) e ∙ negative_back n number.unit within ends
        ∙ ap (λ (v : Option ℤ). record { value = v; unit = number.unit }) (sym e)
    go None e within =
        ap (λ (v : Option ℤ). numeral (numeral_text v number.unit)) e ∙ beyond_back number.unit ends
        ∙ ap (λ (v : Option ℤ). record { value = v; unit = number.unit }) (sym e)
