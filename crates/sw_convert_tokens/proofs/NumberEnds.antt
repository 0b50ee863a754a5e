-- A number with a unit that was read is one number before what may stand behind a value.
use Rattle.std.proofs.Common.{◌≡◌, ◌≤◌, ◌<◌, ℕ, ◌+◌, Bool, true, false, ◌&&◌, ◌||◌, List, [], ◌∷◌, ◌++◌, length, refl, sym, ◌∙◌, ap, subst, arith}
use Rattle.std.specs.Prelude.{◌==◌, nat_lt}
use Rattle.std.proofs.lemmas.Bool.Decides.{nat_tests}
use Rattle.sw_text_scan.specs.declared.runs.Class.TheVariants as classes
use Rattle.sw_text_scan.specs.Bytes.{sign, byte, is_digit, starts_plainly, is_name_byte}
use Rattle.sw_text_scan.specs.Runs.{escape_end, goes_in_unit, next, run_end}
use Rattle.sw_text_scan.specs.Words.{is_exponent, is_plus_or_minus, exponent_end, unit_end}
use Rattle.sw_text_scan.proofs.Bounds.{if_true, if_false, and_left, and_right, run_step, run_stop}
use Rattle.sw_text_scan.proofs.Progress.{run_stops}
use Rattle.sw_convert_spelling.specs.Numerals.{begins_exponent, ends_number}
use Rattle.sw_convert_spelling.proofs.Choices.{left_no, right_no}
use Rattle.sw_convert_spelling.proofs.MovedRuns.{first_byte}
use Rattle.sw_convert_spelling.proofs.NumeralTokens.{second_byte, letter_digit, letter_point, four, or_true, same}
use Rattle.sw_convert_tokens.specs.Written.{is_stop, is_dots, stops}
use Rattle.sw_convert_tokens.proofs.Stops.{Dark, Parted}
use Rattle.sw_convert_tokens.proofs.Units.{slashed, unit_again}

-- ---- behind a value no fraction begins

dots_second : (b : ℕ) (rest : List ℕ) → is_dots (b ∷ rest) ≡ true → is_digit (byte (b ∷ rest) 1) ≡ false
unfolding byte
dots_second b (c ∷ d ∷ rest) e = dot_digit c (and_left (c == sign ".") _ (and_right (b == sign ".") _ e))
  where
    dot_digit : (c : ℕ) → (c == sign ".") ≡ true → is_digit c ≡ false
    dot_digit c e = grind (arith, nat_tests)
dots_second b (c ∷ []) e = absurd (cc)
dots_second b [] e = absurd (cc)

pub no_point : (after : List ℕ) → stops after ≡ true → ((byte after 0 == sign ".") && is_digit (byte after 1)) ≡ false
unfolding byte
no_point [] e = refl
no_point (b ∷ rest) e = go (is_stop b) refl e
  where
    stop_no : (b : ℕ) → is_stop b ≡ true → (b == sign ".") ≡ false
    stop_no b e = grind (arith, nat_tests)

    go : (t : Bool) → is_stop b ≡ t → (t || is_dots (b ∷ rest)) ≡ true
        → ((b == sign ".") && is_digit (byte (b ∷ rest) 1)) ≡ false
    go true t e = left_no (b == sign ".") _ (stop_no b t)
    go false t e = right_no (b == sign ".") _ (dots_second b rest e)

-- ---- where nothing of a number begins

no_power : (bs : List ℕ) → is_exponent (byte bs 0) ≡ false → exponent_end bs 0 ≡ 0
no_power bs e =
    if_false (is_exponent (byte bs 0) && is_digit (byte bs (0 + 1))) _ _ (left_no (is_exponent (byte bs 0)) _ e)
    ∙ if_false (is_exponent (byte bs 0) && (is_plus_or_minus (byte bs (0 + 1)) && is_digit (byte bs (0 + 2)))) _ 0
    (left_no (is_exponent (byte bs 0)) _ e)

-- neither digits nor a sign and digits behind an `e`
no_digits : (bs : List ℕ) → is_digit (byte bs 1) ≡ false → (is_plus_or_minus (byte bs 1) && is_digit (byte bs 2)) ≡ false
    → exponent_end bs 0 ≡ 0
no_digits bs e f =
    if_false (is_exponent (byte bs 0) && is_digit (byte bs (0 + 1))) _ _ (right_no (is_exponent (byte bs 0)) _ e)
    ∙ if_false (is_exponent (byte bs 0) && (is_plus_or_minus (byte bs (0 + 1)) && is_digit (byte bs (0 + 2)))) _ 0
    (right_no (is_exponent (byte bs 0)) _ f)

pub name_exponent : (b : ℕ) → is_name_byte b ≡ false → is_exponent b ≡ false
name_exponent b e = grind (arith, nat_tests)

name_starts : (b : ℕ) → is_name_byte b ≡ false → starts_plainly b ≡ false
name_starts b e = grind (arith, nat_tests)

percent_digit : (b : ℕ) → (b == sign "%") ≡ true → is_digit b ≡ false
percent_digit b e = grind (arith, nat_tests)

percent_point : (b : ℕ) → (b == sign "%") ≡ true → (b == sign ".") ≡ false
percent_point b e = grind (arith, nat_tests)

percent_power : (b : ℕ) → (b == sign "%") ≡ true → is_exponent b ≡ false
percent_power b e = grind (arith, nat_tests)

sign_starts : (b : ℕ) → is_plus_or_minus b ≡ true → starts_plainly b ≡ false
sign_starts b e = grind (arith, nat_tests)

sign_digit : (b : ℕ) → is_plus_or_minus b ≡ true → is_digit b ≡ false
sign_digit b e = grind (arith, nat_tests)

sign_slash : (b : ℕ) → is_plus_or_minus b ≡ true → (b == sign "\\") ≡ false
sign_slash b e = grind (arith, nat_tests)

-- ---- units

module _ (bs : List ℕ) (run : 1 < run_end classes.Unit bs 0) (plain : starts_plainly (byte bs 0) ≡ true) where
  -- a `-` in a unit stands before a letter
  dash_letter : is_plus_or_minus (byte bs 1) ≡ true → is_digit (byte bs 2) ≡ false
  dash_letter pm = go (goes_in_unit bs 1) refl
    where
      either_true : (a b : Bool) → a ≡ true → (a || b) ≡ true
      either_true true b e = refl
      either_true false b e = absurd (cc)

      first : next classes.Unit bs 0 ≡ 1
      first = if_true (goes_in_unit bs 0) (0 + 1) (escape_end bs 0) (either_true (starts_plainly (byte bs 0)) _ plain)

      behind : run_end classes.Unit bs 1 ≡ run_end classes.Unit bs 0
      behind =
          ap (run_end classes.Unit bs) (sym first)
          ∙ run_step bs classes.Unit 0 (let e = first in omega (arith, e))

      third : (a d m p : Bool) → (a || (d || (m && p))) ≡ true → a ≡ false → d ≡ false → p ≡ true
      third true d m p e f g = absurd (cc)
      third false true m p e f g = absurd (cc)
      third false false true p e f g = e
      third false false false p e f g = absurd (cc)

      go : (t : Bool) → goes_in_unit bs 1 ≡ t → is_digit (byte bs 2) ≡ false
      go true t =
          letter_digit (byte bs 2)
          (third (starts_plainly (byte bs 1)) (is_digit (byte bs 1)) (byte bs 1 == sign "-") (starts_plainly (byte bs 2)) t
          (sign_starts (byte bs 1) pm) (sign_digit (byte bs 1) pm))
      go false t = escaping (nat_lt 1 (escape_end bs 1)) refl
        where
          stays : next classes.Unit bs 1 ≡ escape_end bs 1
          stays = if_false (goes_in_unit bs 1) (1 + 1) (escape_end bs 1) t

          escaping : (u : Bool) → nat_lt 1 (escape_end bs 1) ≡ u → is_digit (byte bs 2) ≡ false
          escaping true u =
              let s = slashed bs 1 (let z : 1 < escape_end bs 1 = grind (arith, nat_tests) in z) in
              absurd (let wrong : true ≡ false = sym (ap (λ (b : ℕ). b == sign "\\") s) ∙ sign_slash (byte bs 1) pm in cc)
          escaping false u =
              let low : escape_end bs 1 ≤ 1 = grind (arith, nat_tests) in
              let stop = run_stop bs classes.Unit 1 (let e = stays in omega (arith, e, low)) in
              let b = behind in
              absurd (omega (arith, stop, b, run))

  pub no_sign : (is_plus_or_minus (byte bs 1) && is_digit (byte bs 2)) ≡ false
  no_sign = go (is_plus_or_minus (byte bs 1)) refl
    where
      go : (t : Bool) → is_plus_or_minus (byte bs 1) ≡ t → (t && is_digit (byte bs 2)) ≡ false
      go true t = dash_letter t
      go false t = refl

-- what follows a letter is no exponent of digits alone
letter_power : (b : ℕ) (unit after : List ℕ) → starts_plainly b ≡ true → Dark (byte after 0)
    → run_end classes.Unit (b ∷ (unit ++ after)) 0 ≡ length (b ∷ unit)
    → (begins_exponent (b ∷ unit) || (exponent_end (b ∷ (unit ++ after)) 0 == 0)) ≡ true
letter_power b [] after plain dark run =
    same (exponent_end (b ∷ after) 0) 0
    (no_digits (b ∷ after) (ap is_digit (second_byte b after) ∙ dark.digit)
    (left_no (is_plus_or_minus (byte (b ∷ after) 1)) _ (ap is_plus_or_minus (second_byte b after) ∙ dark.sign_before)))
letter_power b (c ∷ unit) after plain dark run = go (is_exponent b && is_digit c) refl
  where
    bs : List ℕ
    bs = b ∷ (c ∷ (unit ++ after))

    second : byte (b ∷ (c ∷ (unit ++ after))) 1 ≡ c
    second = second_byte b (c ∷ (unit ++ after)) ∙ first_byte c (unit ++ after)

    long : 1 < run_end classes.Unit (b ∷ (c ∷ (unit ++ after))) 0
    long = omega (arith, run)

    go : (t : Bool) → (is_exponent b && is_digit c) ≡ t
        → (t || (exponent_end (b ∷ (c ∷ (unit ++ after))) 0 == 0)) ≡ true
    go true t = refl
    go false t =
        let xs = b ∷ (c ∷ (unit ++ after)) in
        same (exponent_end xs 0) 0
        (if_false (is_exponent (byte xs 0) && is_digit (byte xs (0 + 1))) _ _
        (ap (λ (x : ℕ). is_exponent x && is_digit (byte xs 1)) (first_byte b (c ∷ (unit ++ after)))
        ∙ ap (λ (x : ℕ). is_exponent b && is_digit x) second ∙ t)
        ∙ if_false (is_exponent (byte xs 0) && (is_plus_or_minus (byte xs (0 + 1)) && is_digit (byte xs (0 + 2)))) _ 0
        (right_no (is_exponent (byte xs 0)) _
        (no_sign xs long (ap starts_plainly (first_byte b (c ∷ (unit ++ after))) ∙ plain))))

-- behind the digits of a number the unit that was read stands as it stood
pub unit_ends : (unit old after : List ℕ) → unit_end (unit ++ old) 0 ≡ length unit → stops after ≡ true → Parted unit after
    → ends_number unit after ≡ true
unit_ends [] old after was stop parted =
    let dark = parted.dark in
    four (is_digit (byte after 0)) _ (exponent_end after 0 == 0) (unit_end after 0 == 0) dark.digit (no_point after stop)
    (same (exponent_end after 0) 0 (no_power after (name_exponent (byte after 0) dark.name)))
    (same (unit_end after 0) 0
    (if_false (byte after 0 == sign "%") _ _ dark.percent
    ∙ if_false (starts_plainly (byte after 0)) _ 0 (name_starts (byte after 0) dark.name)))
unit_ends (b ∷ unit) old after was stop parted = go (b == sign "%") refl (starts_plainly b) refl
  where
    old_first : byte (b ∷ (unit ++ old)) 0 ≡ b
    old_first = first_byte b (unit ++ old)

    new_first : byte (b ∷ (unit ++ after)) 0 ≡ b
    new_first = first_byte b (unit ++ after)

    long : 0 < length (b ∷ unit)
    long = omega arith

    go : (t : Bool) → (b == sign "%") ≡ t → (u : Bool) → starts_plainly b ≡ u → ends_number (b ∷ unit) after ≡ true
    go true t u v =
        let bs = b ∷ (unit ++ old) in
        let cs = b ∷ (unit ++ after) in
        let old_end = if_true (byte bs 0 == sign "%") (0 + 1) _ (ap (λ (x : ℕ). x == sign "%") old_first ∙ t) in
        let new_end = if_true (byte cs 0 == sign "%") (0 + 1) _ (ap (λ (x : ℕ). x == sign "%") new_first ∙ t) in
        four (is_digit (byte cs 0)) _ _ _ (ap is_digit new_first ∙ percent_digit b t)
        (left_no (byte cs 0 == sign ".") _ (ap (λ (x : ℕ). x == sign ".") new_first ∙ percent_point b t))
        (or_true (begins_exponent (b ∷ unit)) _
        (same (exponent_end cs 0) 0 (no_power cs (ap is_exponent new_first ∙ percent_power b t))))
        (same (unit_end cs 0) (length (b ∷ unit)) (new_end ∙ sym old_end ∙ was))
    go false t false v =
        let bs = b ∷ (unit ++ old) in
        let none =
        if_false (byte bs 0 == sign "%") (0 + 1) _ (ap (λ (x : ℕ). x == sign "%") old_first ∙ t)
        ∙ if_false (starts_plainly (byte bs 0)) (run_end classes.Unit bs 0) 0 (ap starts_plainly old_first ∙ v) in
        absurd (let l = long in omega (arith, none, was, l))
    go false t true v =
        let bs = b ∷ (unit ++ old) in
        let cs = b ∷ (unit ++ after) in
        let old_run : run_end classes.Unit bs 0 ≡ length (b ∷ unit) =
        sym (if_false (byte bs 0 == sign "%") (0 + 1) _ (ap (λ (x : ℕ). x == sign "%") old_first ∙ t)
        ∙ if_true (starts_plainly (byte bs 0)) (run_end classes.Unit bs 0) 0 (ap starts_plainly old_first ∙ v))
        ∙ was in
        let new_run = unit_again (b ∷ unit) old after
        (subst (λ (k : ℕ). next classes.Unit bs k ≤ k) old_run (run_stops bs classes.Unit 0)) parted old_run in
        four (is_digit (byte cs 0)) _ _ _ (ap is_digit new_first ∙ letter_digit b v)
        (left_no (byte cs 0 == sign ".") _ (ap (λ (x : ℕ). x == sign ".") new_first ∙ letter_point b v))
        (letter_power b unit after v parted.dark new_run)
        (same (unit_end cs 0) (length (b ∷ unit))
        (if_false (byte cs 0 == sign "%") (0 + 1) _ (ap (λ (x : ℕ). x == sign "%") new_first ∙ t)
        ∙ if_true (starts_plainly (byte cs 0)) (run_end classes.Unit cs 0) 0 (ap starts_plainly new_first ∙ v) ∙ new_run))
