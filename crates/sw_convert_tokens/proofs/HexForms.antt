-- Hexadecimal forms by their bytes, and names that are none.
use Rattle.std.proofs.Common.{◌≡◌, ◌⊎◌, ◌≤◌, ◌<◌, ℕ, zero, suc, ◌+◌, ◌-◌, Bool, true, false, ◌&&◌, nat_lt, List, [], ◌∷◌, ◌++◌, length, inl, inr, refl, sym, ◌∙◌, ap, arith}
use Rattle.std.specs.List.{list_all}
use Rattle.std.proofs.lemmas.Bool.Decides.{nat_tests}
use Rattle.sw_text_scan.specs.declared.runs.Class.TheVariants as classes
use Rattle.sw_text_scan.specs.Bytes.{byte, is_hex_digit, is_name_byte}
use Rattle.sw_text_scan.specs.Runs.{next, run_end, escape_end}
use Rattle.sw_text_scan.proofs.Bounds.{if_true, if_false, and_left, and_right, not_true, run_step, run_stop, run_past}
use Rattle.sw_text_locality.proofs.Written.{byte_before}
use Rattle.sw_tokens.specs.Pieces.{has_hex_length, is_hex_form}
use Rattle.sw_convert_spelling.proofs.Again.{lt_or_le}
use Rattle.sw_convert_spelling.proofs.MovedRuns as moved
use Rattle.sw_convert_spelling.proofs.Choices.{both, by_test}

-- digits, so many as a form has
abbrev pub is_form : List ℕ → Bool
is_form digits = list_all is_hex_digit digits && has_hex_length (length digits)

module _ (x : List ℕ) where
  abbrev IsDigit : ℕ → Type 0
  IsDigit j = is_hex_digit (byte x j) ≡ true

  digits_at : (f i j : ℕ) → length x ≤ f + i → i ≤ j → j < run_end classes.HexDigit x i → IsDigit j
  digits_at zero i j past low high =
      let none = run_past x classes.HexDigit i (omega (arith, past)) in absurd (omega (arith, none, low, high))
  digits_at (suc f) i j past low high =
      go (is_hex_digit (byte x i)) refl (lt_or_le i j) (digits_at f (i + 1) j (omega (arith, past)))
    where
      go : (t : Bool) → is_hex_digit (byte x i) ≡ t → (i < j) ⊎ (j ≤ i)
          → (i + 1 ≤ j → j < run_end classes.HexDigit x (i + 1) → IsDigit j) → IsDigit j
      go true t (inl lt) more =
          let on = if_true (is_hex_digit (byte x i)) (i + 1) i t in
          let step = run_step x classes.HexDigit i (omega (arith, on)) in
          let same = ap (run_end classes.HexDigit x) on in
          more (omega (arith, lt)) (omega (arith, step, same, high))
      go true t (inr le) more =
          let place : i ≡ j = omega (arith, low, le) in ap (λ (k : ℕ). is_hex_digit (byte x k)) (sym place) ∙ t
      go false t side more =
          let none = if_false (is_hex_digit (byte x i)) (i + 1) i t in
          let stays = run_stop x classes.HexDigit i (omega (arith, none)) in absurd (omega (arith, stays, low, high))

  digit_names : (b : ℕ) → is_hex_digit b ≡ true → is_name_byte b ≡ true
  digit_names b e = grind (arith, nat_tests)

  -- a name runs on from its digits
  digits_name : (f i : ℕ) → length x ≤ f + i
      → run_end classes.Name x (run_end classes.HexDigit x i) ≡ run_end classes.Name x i
  digits_name zero i l = ap (run_end classes.Name x) (run_past x classes.HexDigit i (omega (arith, l)))
  digits_name (suc f) i l = go (is_hex_digit (byte x i)) refl (digits_name f (i + 1) (omega (arith, l)))
    where
      go : (t : Bool) → is_hex_digit (byte x i) ≡ t
          → run_end classes.Name x (run_end classes.HexDigit x (i + 1)) ≡ run_end classes.Name x (i + 1)
          → run_end classes.Name x (run_end classes.HexDigit x i) ≡ run_end classes.Name x i
      go false t more =
          let none = if_false (is_hex_digit (byte x i)) (i + 1) i t in
          ap (run_end classes.Name x) (run_stop x classes.HexDigit i (omega (arith, none)))
      go true t more =
          let digit = if_true (is_hex_digit (byte x i)) (i + 1) i t in
          let name = if_true (is_name_byte (byte x i)) (i + 1) (escape_end x i) (digit_names (byte x i) t) in
          ap (run_end classes.Name x)
          (sym (run_step x classes.HexDigit i (omega (arith, digit))) ∙ ap (run_end classes.HexDigit x) digit)
          ∙ more ∙ ap (run_end classes.Name x) (sym name) ∙ run_step x classes.Name i (omega (arith, name))

all_digits : (w : List ℕ) → ((j : ℕ) → j < length w → is_hex_digit (byte w j) ≡ true) → list_all is_hex_digit w ≡ true
all_digits [] digits = refl
all_digits (b ∷ w) digits =
    both (is_hex_digit b) _
    (ap is_hex_digit (sym (moved.first_byte b w)) ∙ digits 0 (omega arith))
    (all_digits w
    (λ j lt.
    ap is_hex_digit
    (sym (moved.at_byte (b ∷ []) w j) ∙ ap (byte (b ∷ w)) (let z : length (b ∷ []) + j ≡ suc j = omega arith in z))
    ∙ digits (suc j) (omega (arith, lt))))

module _ (w after : List ℕ) where
  abbrev cs : List ℕ
  cs = w ++ after

  -- a form that ends with its bytes
  pub form_is : is_hex_form cs 0 ≡ true → run_end classes.HexDigit cs 0 ≡ length w → is_form w ≡ true
  unfolding is_hex_form
  form_is form run =
      both (list_all is_hex_digit w) _
      (all_digits w
      (λ j lt.
      ap is_hex_digit (sym (byte_before w after j lt))
      ∙ digits_at cs (length cs) 0 j (omega arith) (omega arith) (omega (arith, lt, run))))
      (ap has_hex_length (let z : length w ≡ run_end classes.HexDigit cs 0 - 0 = omega (arith, run) in z)
      ∙ and_left (has_hex_length (run_end classes.HexDigit cs 0 - 0)) _ form)

  form_ends : run_end classes.Name cs 0 ≡ length w → is_hex_form cs 0 ≡ true → run_end classes.HexDigit cs 0 ≡ length w
  unfolding is_hex_form
  form_ends name form =
      let none : nat_lt (run_end classes.HexDigit cs 0) (next classes.Name cs (run_end classes.HexDigit cs 0)) ≡ false =
      not_true (nat_lt (run_end classes.HexDigit cs 0) (next classes.Name cs (run_end classes.HexDigit cs 0)))
      (and_right (has_hex_length (run_end classes.HexDigit cs 0 - 0)) _ form) in
      let stays = run_stop cs classes.Name (run_end classes.HexDigit cs 0) (grind (arith, nat_tests)) in
      sym stays ∙ digits_name cs (length cs) 0 (omega arith) ∙ name

  -- a name that ends with bytes that are no form is none
  pub no_form : run_end classes.Name cs 0 ≡ length w → is_form w ≡ false → is_hex_form cs 0 ≡ false
  no_form name none =
      by_test (is_hex_form cs 0 ≡ false) (is_hex_form cs 0)
      (λ t. absurd (let wrong : true ≡ false = sym (form_is t (form_ends name t)) ∙ none in cc)) (λ t. t)
