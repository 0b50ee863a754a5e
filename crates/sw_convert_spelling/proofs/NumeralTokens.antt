-- A number that is written with its unit is one token.
use Rattle.std.proofs.Common.{◌≡◌, ℕ, ◌+◌, ◌/◌, ◌%◌, ◌^◌, ◌≤◌, ◌<◌, Bool, true, false, not, ◌&&◌, ◌||◌, if◌then◌else◌, List, [], ◌∷◌, ◌++◌, length, pos, Some, decimal, refl, sym, ◌∙◌, ap, arith, lit<, lit≤, append_assoc, length-append}
use Rattle.std.specs.Prelude.{◌==◌, nat_lt}
use Rattle.std.specs.List.{list_all}
use Rattle.std.proofs.lemmas.Bool.Decides.{nat_tests}
use Rattle.std.proofs.lemmas.Nat.{mod_below}
use Rattle.sw_fixed.specs.Arithmetic.{scale, limit}
use Rattle.sw_fixed.specs.Reading.{AreDigits}
use Rattle.sw_fixed.specs.Text.{decimals, fraction_text}
use Rattle.sw_fixed.proofs.DigitRuns.{AreDigits_parts}
use Rattle.sw_text_scan.specs.declared.runs.Class.TheVariants as classes
use Rattle.sw_text_scan.specs.Bytes.{sign, byte, is_white, is_quote, is_digit, starts_plainly, opens_at, begins_silent, begins_loud}
use Rattle.sw_text_scan.specs.Runs.{next, run_end, escape_end, goes_in_unit}
use Rattle.sw_text_scan.specs.Words.{fraction_end, is_exponent, is_plus_or_minus, exponent_end, unit_start, unit_end, begins_number}
use Rattle.sw_text_scan.proofs.Bounds.{if_true, if_false, and_left, and_right, not_true, run_step, run_stop}
use Rattle.sw_tokens.specs.declared.pieces.Before.{Before}
use Rattle.sw_tokens.specs.declared.pieces.Change.TheVariants as changes
use Rattle.sw_tokens.specs.declared.skips.Inside.{Inside}
use Rattle.sw_tokens.specs.declared.skips.Inside.TheVariants as insides
use Rattle.sw_tokens.specs.declared.token.TokenKind.{TokenKind}
use Rattle.sw_tokens.specs.declared.token.TokenKind.TheVariants as kinds
use Rattle.sw_tokens.specs.Pieces.{made, number_kind, number_piece, after_hash, word_piece, in_interpolation, code_piece, piece}
use Rattle.sw_convert_spelling.specs.Numerals.{begins_exponent, no_exponent, numeral_text, ends_number, numeral_kind, IsNumeralToken, IsLetterUnit}
use Rattle.sw_convert_spelling.specs.Spelt.{is_sheet_code}
use Rattle.sw_convert_spelling.proofs.MovedRuns as moved
use Rattle.sw_convert_spelling.proofs.Numerals.{Whole, whole_small, decimals_write}
use Rattle.sw_convert_spelling.proofs.Choices.{left_no, right_no}

either_true : (a b : Bool) → a ≡ true → (a || b) ≡ true
either_true true b e = refl
either_true false b e = absurd (cc)

equal : (a b : ℕ) → (a == b) ≡ true → a ≡ b
equal a b e = grind (arith, nat_tests)

-- ---- digits

digit_by : (b : ℕ) → 48 ≤ b → b ≤ 57 → is_digit b ≡ true
digit_by b low high = grind (arith, nat_tests)

pub digit_run : (ds rest : List ℕ) → AreDigits ds → is_digit (byte rest 0) ≡ false → run_end classes.Digit (ds ++ rest) 0 ≡ length ds
digit_run [] rest all dark = run_stop rest classes.Digit 0 (let e : next classes.Digit rest 0 ≡ 0 = if_false (is_digit (byte rest 0)) (0 + 1) 0 dark in omega (arith, e))
digit_run (d ∷ ds) rest all dark =
    let p = AreDigits_parts d ds all in
    let first : is_digit (byte (d ∷ (ds ++ rest)) 0) ≡ true = ap is_digit (moved.first_byte d (ds ++ rest)) ∙ digit_by d p.low p.high in
    let goes : next classes.Digit (d ∷ (ds ++ rest)) 0 ≡ 1 = if_true (is_digit (byte (d ∷ (ds ++ rest)) 0)) (0 + 1) 0 first in
    sym (run_step (d ∷ (ds ++ rest)) classes.Digit 0 (omega (arith, goes))) ∙ ap (run_end classes.Digit (d ∷ (ds ++ rest))) goes
    ∙ moved.run_moved (d ∷ []) (ds ++ rest) classes.Digit 0
    ∙ ap (λ (n : ℕ). 1 + n) (digit_run ds rest p.rest dark)
    ∙ (let e : 1 + length ds ≡ length (d ∷ ds) = omega arith in e)

first_digit : (ds rest : List ℕ) → AreDigits ds → 0 < length ds → is_digit (byte (ds ++ rest) 0) ≡ true
first_digit [] rest all some = absurd (omega (arith, some))
first_digit (d ∷ ds) rest all some = let p = AreDigits_parts d ds all in ap is_digit (moved.first_byte d (ds ++ rest)) ∙ digit_by d p.low p.high

pub second_byte : (a : ℕ) (bs : List ℕ) → byte (a ∷ bs) 1 ≡ byte bs 0
second_byte a bs = moved.at_byte (a ∷ []) bs 0

some_decimals : (rest : ℕ) → (rest == 0) ≡ false → 0 < length (decimals 10 rest)
unfolding decimals
some_decimals rest t = some (decimals 10 rest) (if_false (rest == 0) [] ((48 + rest / 10 ^ 9) ∷ decimals 9 (rest % 10 ^ 9)) t)
  where
    some : (xs : List ℕ) → xs ≡ (48 + rest / 10 ^ 9) ∷ decimals 9 (rest % 10 ^ 9) → 0 < length xs
    some xs e = let l = ap length e in omega (arith, l)

-- ---- behind them

module _ (rest : ℕ) (below : rest < 10 ^ 10) (e : Bool) (tail : List ℕ) (no_digit : is_digit (byte tail 0) ≡ false) (no_point : ((byte tail 0 == sign ".") && is_digit (byte tail 1)) ≡ false)
    (no_power : (e || (exponent_end tail 0 == 0)) ≡ true) where
  abbrev power : List ℕ
  power = no_exponent e ++ tail

  power_digit : (t : Bool) → is_digit (byte (no_exponent t ++ tail) 0) ≡ false
  power_digit true = ap is_digit (moved.first_byte (sign "e") (48 ∷ tail))
  power_digit false = no_digit

  power_point : (t : Bool) → ((byte (no_exponent t ++ tail) 0 == sign ".") && is_digit (byte (no_exponent t ++ tail) 1)) ≡ false
  power_point true = left_no _ _ (ap (λ (b : ℕ). b == sign ".") (moved.first_byte (sign "e") (48 ∷ tail)))
  power_point false = no_point

  power_end : (t : Bool) → (t || (exponent_end tail 0 == 0)) ≡ true → exponent_end (no_exponent t ++ tail) 0 ≡ length (no_exponent t)
  unfolding AreDigits
  power_end true h =
      let xs = sign "e" ∷ 48 ∷ tail in
      let one = moved.first_byte (sign "e") (48 ∷ tail) in
      let two = second_byte (sign "e") (48 ∷ tail) ∙ moved.first_byte 48 tail in
      if_true (is_exponent (byte xs 0) && is_digit (byte xs 1)) (run_end classes.Digit xs 1) _ (ap (λ (b : ℕ). is_exponent b && is_digit (byte xs 1)) one ∙ ap (λ (b : ℕ). is_digit b) two)
      ∙ moved.run_moved (sign "e" ∷ []) (48 ∷ tail) classes.Digit 0
      ∙ ap (λ (n : ℕ). 1 + n) (digit_run (48 ∷ []) tail (lit≤ tt, lit≤ tt, tt) no_digit)
  power_end false h = equal (exponent_end tail 0) 0 h

  abbrev point : List ℕ
  point = fraction_text rest ++ power

  none : (rest == 0) ≡ true → fraction_text rest ≡ []
  none t = if_true (rest == 0) [] (46 ∷ decimals 10 rest) t

  some_text : (rest == 0) ≡ false → fraction_text rest ≡ 46 ∷ decimals 10 rest
  some_text t = if_false (rest == 0) [] (46 ∷ decimals 10 rest) t

  by_rest : (P : Type 0) → ((rest == 0) ≡ true → P) → ((rest == 0) ≡ false → P) → P
  by_rest P f g = go (rest == 0) refl
    where
      go : (t : Bool) → (rest == 0) ≡ t → P
      go true t = f t
      go false t = g t

  point_digit : is_digit (byte point 0) ≡ false
  point_digit =
      by_rest (is_digit (byte point 0) ≡ false)
      (λ t. ap (λ (xs : List ℕ). is_digit (byte (xs ++ power) 0)) (none t) ∙ power_digit e)
      (λ t. ap (λ (xs : List ℕ). is_digit (byte (xs ++ power) 0)) (some_text t) ∙ ap is_digit (moved.first_byte 46 (decimals 10 rest ++ power)))

  point_end : fraction_end point 0 ≡ length (fraction_text rest)
  point_end =
      by_rest (fraction_end point 0 ≡ length (fraction_text rest))
      (λ t. ap (λ (xs : List ℕ). fraction_end (xs ++ power) 0) (none t) ∙ if_false ((byte power 0 == sign ".") && is_digit (byte power 1)) (run_end classes.Digit power 1) 0 (power_point e)
      ∙ sym (ap length (none t)))
      (λ t. let ds = decimals 10 rest in
      let w = decimals_write 10 rest below in
      let xs = 46 ∷ (ds ++ power) in
      ap (λ (ys : List ℕ). fraction_end (ys ++ power) 0) (some_text t)
      ∙ if_true ((byte xs 0 == sign ".") && is_digit (byte xs 1)) (run_end classes.Digit xs 1) 0
      (ap (λ (b : ℕ). (b == sign ".") && is_digit (byte xs 1)) (moved.first_byte 46 (ds ++ power)) ∙ ap is_digit (second_byte 46 (ds ++ power)) ∙ first_digit ds power w.alone (some_decimals rest t))
      ∙ moved.run_moved (46 ∷ []) (ds ++ power) classes.Digit 0
      ∙ ap (λ (n : ℕ). 1 + n) (digit_run ds power w.alone (power_digit e))
      ∙ (let z : 1 + length ds ≡ length (46 ∷ ds) = omega arith in z)
      ∙ sym (ap length (some_text t)))

  -- up to the unit
  pub unit_at : (ds : List ℕ) → AreDigits ds → unit_start (ds ++ point) 0 ≡ length ds + (length (fraction_text rest) + length (no_exponent e))
  unit_at ds all =
      let same : length ds ≡ length ds + 0 = omega arith in
      ap (λ (k : ℕ). exponent_end (ds ++ point) (fraction_end (ds ++ point) k)) (digit_run ds point all point_digit ∙ same)
      ∙ ap (exponent_end (ds ++ point)) (moved.fraction_moved ds point 0 ∙ ap (λ (n : ℕ). length ds + n) (point_end ∙ (let z : length (fraction_text rest) ≡ length (fraction_text rest) + 0 = omega arith in z)))
      ∙ moved.exponent_moved ds point (length (fraction_text rest) + 0)
      ∙ ap (λ (n : ℕ). length ds + n) (moved.exponent_moved (fraction_text rest) power 0 ∙ ap (λ (n : ℕ). length (fraction_text rest) + n) (power_end e no_power))

-- ---- the whole

module _ (n : ℕ) (unit after : List ℕ) (within : n ≤ limit) (ends : ends_number unit after ≡ true) where
  abbrev pub e : Bool
  e = begins_exponent unit

  abbrev pub tail : List ℕ
  tail = unit ++ after

  abbrev pub digits : List ℕ
  digits = decimal (n / scale)

  abbrev pub behind : List ℕ
  behind = fraction_text (n % scale) ++ (no_exponent e ++ tail)

  abbrev pub text : List ℕ
  text = digits ++ behind

  whole : Whole (n / scale)
  whole = whole_small n within

  below : n % scale < 10 ^ 10
  below = mod_below n scale (lit< tt)

  no_digit : is_digit (byte tail 0) ≡ false
  no_digit = not_true _ (and_left (not (is_digit (byte tail 0))) _ ends)

  ends_more : (not ((byte tail 0 == sign ".") && is_digit (byte tail 1)) && ((e || (exponent_end tail 0 == 0)) && (unit_end tail 0 == length unit))) ≡ true
  ends_more = and_right (not (is_digit (byte tail 0))) _ ends

  no_point : ((byte tail 0 == sign ".") && is_digit (byte tail 1)) ≡ false
  no_point = not_true _ (and_left (not ((byte tail 0 == sign ".") && is_digit (byte tail 1))) _ ends_more)

  no_power : (e || (exponent_end tail 0 == 0)) ≡ true
  no_power = and_left (e || (exponent_end tail 0 == 0)) _ (and_right (not ((byte tail 0 == sign ".") && is_digit (byte tail 1))) _ ends_more)

  unit_ends : unit_end tail 0 ≡ length unit
  unit_ends = equal (unit_end tail 0) (length unit) (and_right (e || (exponent_end tail 0 == 0)) _ (and_right (not ((byte tail 0 == sign ".") && is_digit (byte tail 1))) _ ends_more))

  abbrev pub more : ℕ
  more = length (fraction_text (n % scale)) + length (no_exponent e)

  pub start_is : unit_start text 0 ≡ length digits + more
  start_is = unit_at (n % scale) below e tail no_digit no_point no_power digits whole.alone

  -- the text up to the unit, and from it on
  split : digits ++ behind ≡ (digits ++ (fraction_text (n % scale) ++ no_exponent e)) ++ tail
  split =
      ap (λ (xs : List ℕ). digits ++ xs) (sym (append_assoc (fraction_text (n % scale)) (no_exponent e) tail))
      ∙ sym (append_assoc digits (fraction_text (n % scale) ++ no_exponent e) tail)

  front_long : length (digits ++ (fraction_text (n % scale) ++ no_exponent e)) ≡ length digits + more
  front_long = length-append digits (fraction_text (n % scale) ++ no_exponent e) ∙ ap (λ (k : ℕ). length digits + k) (length-append (fraction_text (n % scale)) (no_exponent e))

  at_unit : length digits + more ≡ length (digits ++ (fraction_text (n % scale) ++ no_exponent e)) + 0
  at_unit = let l = front_long in omega (arith, l)

  end_is : unit_end text (unit_start text 0) ≡ (length digits + more) + length unit
  end_is =
      ap (unit_end text) (start_is ∙ at_unit)
      ∙ ap (λ (xs : List ℕ). unit_end xs (length (digits ++ (fraction_text (n % scale) ++ no_exponent e)) + 0)) split
      ∙ moved.unit_moved (digits ++ (fraction_text (n % scale) ++ no_exponent e)) tail 0
      ∙ ap (λ (k : ℕ). length (digits ++ (fraction_text (n % scale) ++ no_exponent e)) + k) unit_ends
      ∙ ap (λ (k : ℕ). k + length unit) front_long

  unit_byte : byte text (length digits + more) ≡ byte tail 0
  unit_byte =
      ap (byte text) at_unit ∙ ap (λ (xs : List ℕ). byte xs (length (digits ++ (fraction_text (n % scale) ++ no_exponent e)) + 0)) split
      ∙ moved.at_byte (digits ++ (fraction_text (n % scale) ++ no_exponent e)) tail 0

  percent_by : (u : List ℕ) → unit_end (u ++ after) 0 ≡ length u → (byte (u ++ after) 0 == sign "%") ≡ (byte u 0 == sign "%")
  unfolding byte
  percent_by (b ∷ u) l = refl
  percent_by [] l = go (byte after 0 == sign "%") refl l
    where
      go : (t : Bool) → (byte after 0 == sign "%") ≡ t → (if t then 0 + 1 else (if starts_plainly (byte after 0) then run_end classes.Unit after 0 else 0)) ≡ 0 → (byte after 0 == sign "%") ≡ false
      go true t z = absurd (omega (arith, z))
      go false t z = t

  same_sum : (a b : ℕ) → (a == a + b) ≡ (b == 0)
  same_sum a b = go (b == 0) refl
    where
      go : (t : Bool) → (b == 0) ≡ t → (a == a + b) ≡ t
      go true t = grind (arith, nat_tests)
      go false t = grind (arith, nat_tests)

  kind_is : number_kind text (run_end classes.Digit text 0) (unit_start text 0) ≡ numeral_kind n unit
  kind_is =
      ap (λ (k : ℕ). number_kind text k (unit_start text 0)) (digit_run digits behind whole.alone (point_digit (n % scale) below e tail no_digit no_point no_power))
      ∙ ap (number_kind text (length digits)) start_is
      ∙ ap (λ (t : Bool). if t && not (byte text (length digits + more) == sign "%") then kinds.Digits else kinds.Number)
      (same_sum (length digits) more ∙ ap (λ (k : ℕ). k == 0) (sym (length-append (fraction_text (n % scale)) (no_exponent e))))
      ∙ ap (λ (b : ℕ). if (length (fraction_text (n % scale) ++ no_exponent e) == 0) && not (b == sign "%") then kinds.Digits else kinds.Number) unit_byte
      ∙ ap (λ (t : Bool). if (length (fraction_text (n % scale) ++ no_exponent e) == 0) && not t then kinds.Digits else kinds.Number) (percent_by unit unit_ends)

  -- what is written, and what stands behind it
  pub text_is : numeral_text (Some (pos n)) unit ++ after ≡ text
  text_is =
      append_assoc ((digits ++ fraction_text (n % scale)) ++ no_exponent e) unit after
      ∙ append_assoc (digits ++ fraction_text (n % scale)) (no_exponent e) tail
      ∙ append_assoc digits (fraction_text (n % scale)) (no_exponent e ++ tail)

  pub long : (length digits + more) + length unit ≡ length (numeral_text (Some (pos n)) unit)
  long =
      let a = length-append ((digits ++ fraction_text (n % scale)) ++ no_exponent e) unit in
      let b = length-append (digits ++ fraction_text (n % scale)) (no_exponent e) in
      let c = length-append digits (fraction_text (n % scale)) in
      omega (arith, a, b, c)

  number_is : number_piece text 0 ≡ made (numeral_kind n unit) (length (numeral_text (Some (pos n)) unit)) changes.Keep
  unfolding number_piece
  number_is = ap (λ (k : TokenKind). made k (unit_end text (unit_start text 0)) changes.Keep) kind_is ∙ ap (λ (k : ℕ). made (numeral_kind n unit) k changes.Keep) (end_is ∙ long)

  pub first_is : is_digit (byte text 0) ≡ true
  first_is = first_digit digits behind whole.alone whole.some

digit_white : (b : ℕ) → is_digit b ≡ true → is_white b ≡ false
digit_white b e = grind (arith, nat_tests)

digit_quote : (b : ℕ) → is_digit b ≡ true → is_quote b ≡ false
digit_quote b e = grind (arith, nat_tests)

digit_hash : (b : ℕ) → is_digit b ≡ true → (b == sign "#") ≡ false
digit_hash b e = grind (arith, nat_tests)

digit_brace : (b : ℕ) → is_digit b ≡ true → (b == sign "}") ≡ false
digit_brace b e = grind (arith, nat_tests)

digit_slash : (b : ℕ) → is_digit b ≡ true → (b == sign "/") ≡ false
digit_slash b e = grind (arith, nat_tests)

-- digits begin nothing but a number
pub number_here : (bs : List ℕ) (top : Inside) (before : Before) → after_hash before ≡ false → is_digit (byte bs 0) ≡ true → code_piece bs top before 0 ≡ number_piece bs 0
unfolding code_piece word_piece
number_here bs top before hash e =
    if_false (is_white (byte bs 0)) _ _ (digit_white (byte bs 0) e)
    ∙ if_false (is_quote (byte bs 0)) _ _ (digit_quote (byte bs 0) e)
    ∙ if_false (opens_at bs 0) _ _ (left_no (byte bs 0 == sign "#") _ (digit_hash (byte bs 0) e))
    ∙ if_false ((byte bs 0 == sign "}") && in_interpolation top) _ _ (left_no (byte bs 0 == sign "}") _ (digit_brace (byte bs 0) e))
    ∙ if_false (begins_silent bs 0) _ _ (left_no (byte bs 0 == sign "/") _ (digit_slash (byte bs 0) e))
    ∙ if_false (begins_loud bs 0) _ _ (left_no (byte bs 0 == sign "/") _ (digit_slash (byte bs 0) e))
    ∙ if_false (after_hash before && _) _ _ (left_no (after_hash before) _ hash)
    ∙ if_true (begins_number bs 0) _ _ (either_true (is_digit (byte bs 0)) _ e)

pub numeral_token : (value : ℕ) (unit : List ℕ) (inside : Inside) (before : Before) (after : List ℕ) → IsNumeralToken value unit inside before after
numeral_token value unit inside before after within ends code hash = in_code inside code
  where
    is : (top : Inside) → code_piece (numeral_text (Some (pos value)) unit ++ after) top before 0 ≡ made (numeral_kind value unit) (length (numeral_text (Some (pos value)) unit)) changes.Keep
    is top =
        ap (λ (xs : List ℕ). code_piece xs top before 0) (text_is value unit after within ends)
        ∙ number_here (text value unit after within ends) top before hash (first_is value unit after within ends) ∙ number_is value unit after within ends

    in_code : (inside : Inside) → is_sheet_code inside ≡ true
        → piece (numeral_text (Some (pos value)) unit ++ after) inside before 0 ≡ made (numeral_kind value unit) (length (numeral_text (Some (pos value)) unit)) changes.Keep
    in_code insides.Sheet c = is insides.Sheet
    in_code insides.Interpolation c = is insides.Interpolation
    in_code insides.Css c = absurd (cc)
    in_code (insides.Quotes q) c = absurd (cc)
    in_code insides.Comment c = absurd (cc)
    in_code insides.Url c = absurd (cc)
    in_code insides.UrlInside c = absurd (cc)

-- ---- units of letters

unit_run : (unit after : List ℕ) → list_all starts_plainly unit ≡ true → next classes.Unit after 0 ≤ 0 → run_end classes.Unit (unit ++ after) 0 ≡ length unit
unit_run [] after all stops = run_stop after classes.Unit 0 stops
unit_run (b ∷ unit) after all stops =
    let bs = b ∷ (unit ++ after) in
    let first : starts_plainly (byte bs 0) ≡ true = ap starts_plainly (moved.first_byte b (unit ++ after)) ∙ and_left (starts_plainly b) _ all in
    let goes : next classes.Unit bs 0 ≡ 1 = if_true (goes_in_unit bs 0) (0 + 1) (escape_end bs 0) (either_true (starts_plainly (byte bs 0)) _ first) in
    sym (run_step bs classes.Unit 0 (omega (arith, goes))) ∙ ap (run_end classes.Unit bs) goes
    ∙ moved.run_moved (b ∷ []) (unit ++ after) classes.Unit 0
    ∙ ap (λ (n : ℕ). 1 + n) (unit_run unit after (and_right (starts_plainly b) _ all) stops)
    ∙ (let e : 1 + length unit ≡ length (b ∷ unit) = omega arith in e)

pub letter_digit : (b : ℕ) → starts_plainly b ≡ true → is_digit b ≡ false
letter_digit b e = grind (arith, nat_tests)

pub letter_point : (b : ℕ) → starts_plainly b ≡ true → (b == sign ".") ≡ false
letter_point b e = grind (arith, nat_tests)

letter_percent : (b : ℕ) → starts_plainly b ≡ true → (b == sign "%") ≡ false
letter_percent b e = grind (arith, nat_tests)

letter_sign : (b : ℕ) → starts_plainly b ≡ true → is_plus_or_minus b ≡ false
letter_sign b e = grind (arith, nat_tests)

-- where no unit goes on no digit stands
no_unit_digit : (bs : List ℕ) → next classes.Unit bs 0 ≤ 0 → is_digit (byte bs 0) ≡ false
no_unit_digit bs stops = go (is_digit (byte bs 0)) refl
  where
    taken : (a d c : Bool) → d ≡ true → (a || (d || c)) ≡ true
    taken true d c e = refl
    taken false true c e = refl
    taken false false c e = absurd (cc)

    go : (t : Bool) → is_digit (byte bs 0) ≡ t → t ≡ false
    go false t = refl
    go true t =
        let on : next classes.Unit bs 0 ≡ 0 + 1 = if_true (goes_in_unit bs 0) (0 + 1) (escape_end bs 0) (taken (starts_plainly (byte bs 0)) (is_digit (byte bs 0)) _ t) in
        absurd (omega (arith, on, stops))

-- the byte behind the first letter is no digit and no sign
second_of : (unit after : List ℕ) → list_all starts_plainly unit ≡ true → next classes.Unit after 0 ≤ 0 → is_plus_or_minus (byte after 0) ≡ false
    → (is_digit (byte (unit ++ after) 0) ≡ false) × (is_plus_or_minus (byte (unit ++ after) 0) ≡ false)
second_of [] after all stops dark = (no_unit_digit after stops, dark)
second_of (c ∷ unit) after all stops dark =
    let plain = and_left (starts_plainly c) _ all in
    (ap is_digit (moved.first_byte c (unit ++ after)) ∙ letter_digit c plain, ap is_plus_or_minus (moved.first_byte c (unit ++ after)) ∙ letter_sign c plain)

pub four : (a b c d : Bool) → a ≡ false → b ≡ false → c ≡ true → d ≡ true → (not a && (not b && (c && d))) ≡ true
four false false true true e f g h = refl
four true b c d e f g h = absurd (cc)
four false true c d e f g h = absurd (cc)
four false false false d e f g h = absurd (cc)
four false false true false e f g h = absurd (cc)

pub or_true : (a b : Bool) → b ≡ true → (a || b) ≡ true
or_true true b e = refl
or_true false b e = e

pub same : (a b : ℕ) → a ≡ b → (a == b) ≡ true
same a b e = grind (arith, nat_tests)

pub letters_end : (unit after : List ℕ) → IsLetterUnit unit after
letters_end [] after all some stops dark = absurd (omega (arith, some))
letters_end (b ∷ unit) after all some stops dark =
    let bs = b ∷ (unit ++ after) in
    let plain = and_left (starts_plainly b) _ all in
    let first = moved.first_byte b (unit ++ after) in
    let second = second_of unit after (and_right (starts_plainly b) _ all) (at_most_by after stops) dark in
    let digit : is_digit (byte bs 1) ≡ false = ap is_digit (second_byte b (unit ++ after)) ∙ second.0 in
    let plus : is_plus_or_minus (byte bs 1) ≡ false = ap is_plus_or_minus (second_byte b (unit ++ after)) ∙ second.1 in
    let power : exponent_end bs 0 ≡ 0 =
    if_false (is_exponent (byte bs 0) && is_digit (byte bs (0 + 1))) _ _ (right_no (is_exponent (byte bs 0)) _ digit)
    ∙ if_false (is_exponent (byte bs 0) && (is_plus_or_minus (byte bs (0 + 1)) && is_digit (byte bs (0 + 2)))) _ 0 (right_no (is_exponent (byte bs 0)) _ (left_no (is_plus_or_minus (byte bs 1)) _ plus)) in
    let end : unit_end bs 0 ≡ length (b ∷ unit) =
    if_false (byte bs 0 == sign "%") (0 + 1) _ (ap (λ (c : ℕ). c == sign "%") first ∙ letter_percent b plain)
    ∙ if_true (starts_plainly (byte bs 0)) (run_end classes.Unit bs 0) 0 (ap starts_plainly first ∙ plain)
    ∙ unit_run (b ∷ unit) after all (at_most_by after stops) in
    four (is_digit (byte bs 0)) _ _ _ (ap is_digit first ∙ letter_digit b plain) (left_no (byte bs 0 == sign ".") _ (ap (λ (c : ℕ). c == sign ".") first ∙ letter_point b plain))
    (or_true (begins_exponent (b ∷ unit)) _ (same (exponent_end bs 0) 0 power)) (same (unit_end bs 0) (length (b ∷ unit)) end)
  where
    at_most_by : (bs : List ℕ) → nat_lt 0 (next classes.Unit bs 0) ≡ false → next classes.Unit bs 0 ≤ 0
    at_most_by bs e = grind (arith, nat_tests)
