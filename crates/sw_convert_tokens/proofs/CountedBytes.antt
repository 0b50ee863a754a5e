-- The bytes of a number by themselves: digits, a fraction and a power, and no escape before its unit.
use Rattle.std.proofs.Common.{◌≡◌, ◌⊎◌, ◌≤◌, ◌<◌, ℕ, zero, suc, ◌+◌, Bool, true, false, not, ◌&&◌, ◌||◌, if◌then◌else◌, List, [], ◌∷◌, ◌++◌, length, take, inl, inr, refl, sym, ◌∙◌, ap, arith}
use Rattle.std.specs.Prelude.{◌==◌}
use Rattle.std.specs.List.{list_all}
use Rattle.std.proofs.lemmas.Bool.Decides.{nat_tests}
use Rattle.sw_text_scan.specs.declared.runs.Class.TheVariants as classes
use Rattle.sw_text_scan.specs.Bytes.{sign, byte, is_digit}
use Rattle.sw_text_scan.specs.Runs.{run_end}
use Rattle.sw_text_scan.specs.Words.{fraction_end, is_exponent, is_plus_or_minus, exponent_end, unit_start, unit_end, begins_number}
use Rattle.sw_text_scan.proofs.Bounds.{in_text, if_true, if_false, and_left, and_right, run_step, run_stop, run_past, run_within, fraction_onward, exponent_onward, unit_onward}
use Rattle.sw_text_scan.proofs.Progress.{run_on}
use Rattle.sw_text_locality.proofs.Written.{byte_before}
use Rattle.sw_convert_spelling.proofs.Again.{lt_or_le}
use Rattle.sw_convert_spelling.proofs.MovedRuns as moved
use Rattle.sw_convert_spelling.proofs.Choices.{both}

-- ---- no escape stands before its unit

quiet_digit : (b : ℕ) → is_digit b ≡ true → (b == sign "\\") ≡ false
quiet_digit b e = grind (arith, nat_tests)

quiet_exponent : (b : ℕ) → is_exponent b ≡ true → (b == sign "\\") ≡ false
quiet_exponent b e = grind (arith, nat_tests)

quiet_sign : (b : ℕ) → is_plus_or_minus b ≡ true → (b == sign "\\") ≡ false
quiet_sign b e = grind (arith, nat_tests)

quiet_point : (b : ℕ) → (b == sign ".") ≡ true → (b == sign "\\") ≡ false
quiet_point b e = grind (arith, nat_tests)

module _ (w : List ℕ) where
  abbrev Calm : ℕ → Type 0
  Calm j = (byte w j == sign "\\") ≡ false

  moved_calm : (i j : ℕ) → i ≡ j → Calm i → Calm j
  moved_calm i j e c = ap (λ (k : ℕ). byte w k == sign "\\") (sym e) ∙ c

  digits_calm : (f i j : ℕ) → length w ≤ f + i → i ≤ j → j < run_end classes.Digit w i → Calm j
  digits_calm zero i j past low high =
      let none = run_past w classes.Digit i (omega (arith, past)) in absurd (omega (arith, none, low, high))
  digits_calm (suc f) i j past low high =
      go (is_digit (byte w i)) refl (lt_or_le i j) (digits_calm f (i + 1) j (omega (arith, past)))
    where
      go : (t : Bool) → is_digit (byte w i) ≡ t → (i < j) ⊎ (j ≤ i)
          → (i + 1 ≤ j → j < run_end classes.Digit w (i + 1) → Calm j) → Calm j
      go true t (inl lt) more =
          let on = if_true (is_digit (byte w i)) (i + 1) i t in
          let step = run_step w classes.Digit i (omega (arith, on)) in
          let same = ap (run_end classes.Digit w) on in
          more (omega (arith, lt)) (omega (arith, step, same, high))
      go true t (inr le) more =
          moved_calm i j (let place : i ≡ j = omega (arith, low, le) in place) (quiet_digit (byte w i) t)
      go false t side more =
          let none = if_false (is_digit (byte w i)) (i + 1) i t in
          let stays = run_stop w classes.Digit i (omega (arith, none)) in absurd (omega (arith, stays, low, high))

  run_calm : (i j : ℕ) → i ≤ j → j < run_end classes.Digit w i → Calm j
  run_calm i j low high = digits_calm (length w) i j (omega arith) low high

  -- a byte, and digits behind it
  then_digits : (i j : ℕ) → i ≤ j → Calm i → j < run_end classes.Digit w (i + 1) → Calm j
  then_digits i j low first high = go (lt_or_le i j)
    where
      go : (i < j) ⊎ (j ≤ i) → Calm j
      go (inl lt) = run_calm (i + 1) j (omega (arith, lt)) high
      go (inr le) = moved_calm i j (let place : i ≡ j = omega (arith, low, le) in place) first

  fraction_calm : (d j : ℕ) → (j < d → Calm j) → j < fraction_end w d → Calm j
  fraction_calm d j before high =
      go ((byte w d == sign ".") && is_digit (byte w (d + 1))) refl (lt_or_le j d) high
    where
      go : (t : Bool) → ((byte w d == sign ".") && is_digit (byte w (d + 1))) ≡ t → (j < d) ⊎ (d ≤ j)
          → j < (if t then run_end classes.Digit w (d + 1) else d) → Calm j
      go t e (inl lt) h = before lt
      go true e (inr le) h = then_digits d j le (quiet_point (byte w d) (and_left (byte w d == sign ".") _ e)) h
      go false e (inr le) h = absurd (omega (arith, le, h))

  power_calm : (f j : ℕ) → (j < f → Calm j) → j < exponent_end w f → Calm j
  power_calm f j before high =
      go (is_exponent (byte w f) && is_digit (byte w (f + 1))) refl
      (is_exponent (byte w f) && (is_plus_or_minus (byte w (f + 1)) && is_digit (byte w (f + 2)))) refl (lt_or_le j f) high
    where
      go : (t : Bool) → (is_exponent (byte w f) && is_digit (byte w (f + 1))) ≡ t
          → (u : Bool) → (is_exponent (byte w f) && (is_plus_or_minus (byte w (f + 1)) && is_digit (byte w (f + 2)))) ≡ u
          → (j < f) ⊎ (f ≤ j)
          → j < (if t then run_end classes.Digit w (f + 1) else (if u then run_end classes.Digit w (f + 2) else f)) → Calm j
      go t e u v (inl lt) h = before lt
      go true e u v (inr le) h = then_digits f j le (quiet_exponent (byte w f) (and_left (is_exponent (byte w f)) _ e)) h
      go false e true v (inr le) h = signed (lt_or_le f j)
        where
          signed : (f < j) ⊎ (j ≤ f) → Calm j
          signed (inl lt) =
              then_digits (f + 1) j (omega (arith, lt))
              (quiet_sign (byte w (f + 1))
              (and_left (is_plus_or_minus (byte w (f + 1))) _ (and_right (is_exponent (byte w f)) _ v)))
              (let same = ap (run_end classes.Digit w) (let z : f + 2 ≡ (f + 1) + 1 = omega arith in z) in omega (arith, same, h))
          signed (inr past) =
              moved_calm f j (let place : f ≡ j = omega (arith, le, past) in place)
              (quiet_exponent (byte w f) (and_left (is_exponent (byte w f)) _ v))
      go false e false v (inr le) h = absurd (omega (arith, le, h))

  start_calm : (j : ℕ) → j < unit_start w 0 → Calm j
  start_calm j high =
      power_calm (fraction_end w (run_end classes.Digit w 0)) j
      (λ lt. fraction_calm (run_end classes.Digit w 0) j (λ less. run_calm 0 j (omega arith) less) lt) high

all_calm : (n : ℕ) (w : List ℕ) → ((j : ℕ) → j < n → (byte w j == sign "\\") ≡ false)
    → list_all (λ b. not (b == sign "\\")) (take n w) ≡ true
all_calm zero w calm = refl
all_calm (suc n) [] calm = refl
all_calm (suc n) (x ∷ w) calm =
    both (not (x == sign "\\")) _
    (ap (λ (b : ℕ). not (b == sign "\\")) (sym (moved.first_byte x w)) ∙ ap not (calm 0 (omega arith)))
    (all_calm n w
    (λ j lt.
    ap (λ (b : ℕ). b == sign "\\")
    (sym (moved.at_byte (x ∷ []) w j) ∙ ap (byte (x ∷ w)) (let z : length (x ∷ []) + j ≡ suc j = omega arith in z))
    ∙ calm (suc j) (omega (arith, lt))))

pub quiet_front : (w : List ℕ) → list_all (λ b. not (b == sign "\\")) (take (unit_start w 0) w) ≡ true
quiet_front w = all_calm (unit_start w 0) w (start_calm w)

-- ---- where a number begins

-- a `.` and a digit are two bytes of it
pub start_two : (bs : List ℕ) → is_digit (byte bs 0) ≡ false → ((byte bs 0 == sign ".") && is_digit (byte bs 1)) ≡ true
    → 2 ≤ unit_start bs 0
start_two bs none point =
    let digit = and_right (byte bs 0 == sign ".") _ point in
    let within = in_text is_digit bs 1 refl digit in
    let stop = if_false (is_digit (byte bs 0)) (0 + 1) 0 none in
    let zero_is : run_end classes.Digit bs 0 ≡ 0 = run_stop bs classes.Digit 0 (omega (arith, stop)) in
    let on = if_true (is_digit (byte bs 1)) (1 + 1) 1 digit in
    let run = run_on bs classes.Digit 1 (omega (arith, on)) in
    let fraction = ap (fraction_end bs) zero_is
    ∙ if_true ((byte bs 0 == sign ".") && is_digit (byte bs (0 + 1))) (run_end classes.Digit bs (0 + 1)) 0 point in
    let low = run_within bs classes.Digit 0 (omega arith) in
    let further = fraction_onward bs (run_end classes.Digit bs 0) low in
    let power = exponent_onward bs (fraction_end bs (run_end classes.Digit bs 0)) further.within in
    let past = power.forward in omega (arith, past, fraction, run)

pub begins_alone : (w old : List ℕ) → 0 < length w → unit_end (w ++ old) (unit_start (w ++ old) 0) ≡ length w
    → begins_number (w ++ old) 0 ≡ true → begins_number w 0 ≡ true
begins_alone w old some ends e = go (is_digit (byte bs 0)) refl e
  where
    bs : List ℕ
    bs = w ++ old

    first : byte bs 0 ≡ byte w 0
    first = byte_before w old 0 some

    either_true : (a b : Bool) → a ≡ true → (a || b) ≡ true
    either_true true b e = refl
    either_true false b e = absurd (cc)

    or_more : (a b : Bool) → b ≡ true → (a || b) ≡ true
    or_more true b e = refl
    or_more false b e = e

    go : (t : Bool) → is_digit (byte bs 0) ≡ t → (t || ((byte bs 0 == sign ".") && is_digit (byte bs 1))) ≡ true
        → begins_number w 0 ≡ true
    go true t f = either_true (is_digit (byte w 0)) _ (ap is_digit (sym first) ∙ t)
    go false t f =
        let two = start_two bs t f in
        let within = in_text is_digit bs 1 refl (and_right (byte bs 0 == sign ".") _ f) in
        let low = run_within bs classes.Digit 0 (omega arith) in
        let further = fraction_onward bs (run_end classes.Digit bs 0) low in
        let power = exponent_onward bs (fraction_end bs (run_end classes.Digit bs 0)) further.within in
        let unit = unit_onward bs (unit_start bs 0) power.within in
        let forward = unit.forward in
        or_more (is_digit (byte w 0)) _
        (both (byte w 0 == sign ".") _ (ap (λ (b : ℕ). b == sign ".") (sym first) ∙ and_left (byte bs 0 == sign ".") _ f)
        (ap is_digit (sym (byte_before w old 1 (omega (arith, two, forward, ends)))) ∙ and_right (byte bs 0 == sign ".") _ f))
