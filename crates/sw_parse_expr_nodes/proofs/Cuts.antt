-- Where the unit of a number begins, a character ends.
use Rattle.std.proofs.Common.{◌≡◌, ℕ, ◌+◌, ◌≤◌, ◌<◌, true, ◌&&◌, List, [], ◌∷◌, refl, subst, arith, length}
use Rattle.std.specs.Prelude.{◌==◌, ◌||◌}
use Rattle.std.specs.Str.{IsCharBoundary}
use Rattle.std.proofs.lemmas.Bool.Decides.{nat_tests}
use Rattle.std.proofs.lemmas.Str.{IsCharBoundary-after_ascii, IsCharBoundary-start}
use Rattle.sw_text_scan.specs.declared.signs.TheConstants.{FIRST_WIDE}
use Rattle.sw_text_scan.specs.declared.runs.Class.TheVariants as classes
use Rattle.sw_text_scan.specs.Bytes.{sign, byte, is_digit}
use Rattle.sw_text_scan.specs.Runs.{next, run_end}
use Rattle.sw_text_scan.specs.Words.{fraction_end, is_exponent, is_plus_or_minus, exponent_end, unit_start}
use Rattle.sw_text_scan.proofs.Bounds.{in_text, and_left, and_right}
use Rattle.sw_text_scan.proofs.Progress.{either}
use Rattle.sw_parse_table.specs.Numerals.{sign_length}
use Rattle.sw_tokens.proofs.Cuts.{IsText, cut_after, cut_at, run_cut}

module _ (bs : List ℕ) (text : IsText bs) where
  digit_steps : (i : ℕ) → i ≤ length bs → IsCharBoundary bs i → IsCharBoundary bs (next classes.Digit bs i)
  digit_steps i l cut =
      either (IsCharBoundary bs) (is_digit (byte bs i)) (i + 1) i
      (λ m. cut_after bs text i (in_text is_digit bs i refl m) (small_digit (byte bs i) m)) (λ _. cut)
    where
      small_digit : (b : ℕ) → is_digit b ≡ true → b < FIRST_WIDE
      small_digit b m = grind (arith, nat_tests)

  digits_cut : (i : ℕ) → i ≤ length bs → IsCharBoundary bs i → IsCharBoundary bs (run_end classes.Digit bs i)
  digits_cut i l cut = run_cut bs text classes.Digit digit_steps i l cut

  fraction_cut : (i : ℕ) → i ≤ length bs → IsCharBoundary bs i → IsCharBoundary bs (fraction_end bs i)
  fraction_cut i l cut =
      either (IsCharBoundary bs) ((byte bs i == sign ".") && is_digit (byte bs (i + 1))) (run_end classes.Digit bs
      (i + 1)) i
      (λ m.
      let dot = and_left (byte bs i == sign ".") (is_digit (byte bs (i + 1))) m in
      let first = cut_at bs text i (sign ".") (omega arith) dot in
      digits_cut (i + 1) first.0 first)
      (λ _. cut)

  exponent_cut : (i : ℕ) → i ≤ length bs → IsCharBoundary bs i → IsCharBoundary bs (exponent_end bs i)
  exponent_cut i l cut =
      either (IsCharBoundary bs) (is_exponent (byte bs i) && is_digit (byte bs (i + 1))) (run_end classes.Digit bs
      (i + 1)) _
      (λ m.
      let first = behind_letter (and_left (is_exponent (byte bs i)) (is_digit (byte bs (i + 1))) m) in
      digits_cut (i + 1) first.0 first)
      (λ _.
      either (IsCharBoundary bs) (is_exponent (byte bs i) && (is_plus_or_minus (byte bs (i + 1)) && is_digit (byte bs
      (i + 2))))
      (run_end classes.Digit bs (i + 2)) i
      (λ m.
      let signed = and_right (is_exponent (byte bs i)) (is_plus_or_minus (byte bs (i + 1)) && is_digit (byte bs
      (i + 2))) m in
      let second = behind_sign (and_left (is_plus_or_minus (byte bs (i + 1))) (is_digit (byte bs (i + 2))) signed) in
      digits_cut (i + 2) second.0 second)
      (λ _. cut))
    where
      small_letter : (b : ℕ) → is_exponent b ≡ true → b < FIRST_WIDE
      small_letter b m = grind (arith, nat_tests)

      small_sign : (b : ℕ) → is_plus_or_minus b ≡ true → b < FIRST_WIDE
      small_sign b m = grind (arith, nat_tests)

      behind_letter : is_exponent (byte bs i) ≡ true → IsCharBoundary bs (i + 1)
      behind_letter m = cut_after bs text i (in_text is_exponent bs i refl m) (small_letter (byte bs i) m)

      behind_sign : is_plus_or_minus (byte bs (i + 1)) ≡ true → IsCharBoundary bs (i + 2)
      behind_sign m =
          let same : i + 1 + 1 ≡ i + 2 = omega arith in
          subst (IsCharBoundary bs) same
          (cut_after bs text (i + 1) (in_text is_plus_or_minus bs (i + 1) refl m) (small_sign (byte bs (i + 1)) m))

  pub unit_cut : (at : ℕ) → at ≤ length bs → IsCharBoundary bs at → IsCharBoundary bs (unit_start bs at)
  unit_cut at l cut =
      let digits = digits_cut at l cut in
      let fraction = fraction_cut (run_end classes.Digit bs at) digits.0 digits in
      exponent_cut (fraction_end bs (run_end classes.Digit bs at)) fraction.0 fraction

pub sign_cut : (bs : List ℕ) → IsText bs → IsCharBoundary bs (sign_length bs)
sign_cut [] text = IsCharBoundary-start [] text.utf8
sign_cut (b ∷ bs) text =
    either (IsCharBoundary (b ∷ bs)) ((b == 43) || (b == 45)) 1 0
    (λ m. IsCharBoundary-after_ascii (b ∷ bs) 0 text.utf8 (omega arith) (small b m)) (λ _. IsCharBoundary-start (b
    ∷ bs) text.utf8)
  where
    small : (b : ℕ) → ((b == 43) || (b == 45)) ≡ true → b < 128
    small b m = grind (arith, nat_tests)
