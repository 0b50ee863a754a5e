-- Digits by themselves are the same token before what goes on with no number.
use Rattle.std.proofs.Common.{◌≡◌, ◌≤◌, ◌<◌, ℕ, ◌+◌, Bool, true, false, not, ◌&&◌, ◌||◌, if◌then◌else◌, List, [], ◌∷◌, ◌++◌, length, refl, sym, ◌∙◌, ap, subst, arith}
use Rattle.std.specs.Prelude.{◌==◌}
use Rattle.std.specs.List.{list_all}
use Rattle.std.proofs.lemmas.Bool.Decides.{nat_tests}
use Rattle.sw_text_scan.specs.declared.runs.Class.TheVariants as classes
use Rattle.sw_text_scan.specs.Bytes.{sign, byte, is_white, is_quote, is_digit, starts_plainly, opens_at, begins_silent, begins_loud}
use Rattle.sw_text_scan.specs.Runs.{next, run_end, escape_end, goes_in_unit}
use Rattle.sw_text_scan.specs.Words.{fraction_end, is_exponent, exponent_end, unit_end, begins_number, unit_start}
use Rattle.sw_text_scan.proofs.Bounds.{if_true, if_false, and_left, and_right, run_step, run_stop, run_forward}
use Rattle.sw_text_scan.proofs.Progress.{run_stops}
use Rattle.sw_text_locality.proofs.Written.{byte_before}
use Rattle.sw_tokens.specs.declared.pieces.Before.{Before}
use Rattle.sw_tokens.specs.declared.pieces.Before.TheVariants as befores
use Rattle.sw_tokens.specs.declared.pieces.Change.TheVariants as changes
use Rattle.sw_tokens.specs.declared.skips.Inside.{Inside}
use Rattle.sw_tokens.specs.declared.skips.Inside.TheVariants as insides
use Rattle.sw_tokens.specs.declared.token.TokenKind.TheVariants as kinds
use Rattle.sw_tokens.specs.Pieces.{made, piece, is_hex_form, number_kind, number_piece, after_hash, in_interpolation, word_piece, code_piece}
use Rattle.sw_convert_spelling.specs.Spelt.{is_sheet_code}
use Rattle.sw_convert_spelling.proofs.MovedRuns as moved
use Rattle.sw_convert_spelling.proofs.Again as texts
use Rattle.sw_convert_spelling.proofs.Choices.{left_no, both}
use Rattle.sw_convert_tokens.specs.Written.{is_calm}

-- what goes on with no digits, and with no unit behind them
pub record Still (after : List ℕ) : Type 0 where
  pub digit : is_digit (byte after 0) ≡ false
  pub unit : starts_plainly (byte after 0) ≡ false
  pub percent : (byte after 0 == sign "%") ≡ false
  pub point : ((byte after 0 == sign ".") && is_digit (byte after 1)) ≡ false

pub digit_run : (w after : List ℕ) → list_all is_digit w ≡ true → is_digit (byte after 0) ≡ false
    → run_end classes.Digit (w ++ after) 0 ≡ length w
digit_run [] after all e = run_stop after classes.Digit 0 (let on = if_false (is_digit (byte after 0)) (0 + 1) 0 e in omega (arith, on))
digit_run (d ∷ w) after all e =
    let goes : next classes.Digit (d ∷ (w ++ after)) 0 ≡ 1 =
    if_true (is_digit (byte (d ∷ (w ++ after)) 0)) 1 0 (ap is_digit (moved.first_byte d (w ++ after)) ∙ and_left (is_digit d) _ all) in
    sym (run_step (d ∷ (w ++ after)) classes.Digit 0 (omega (arith, goes))) ∙ ap (run_end classes.Digit (d ∷ (w ++ after))) goes
    ∙ moved.run_moved (d ∷ []) (w ++ after) classes.Digit 0
    ∙ ap (λ (n : ℕ). 1 + n) (digit_run w after (and_right (is_digit d) _ all) e)
    ∙ (let z : 1 + length w ≡ length (d ∷ w) = omega arith in z)

-- digits run on over digits, whatever stands behind
digits_long : (w after : List ℕ) → list_all is_digit w ≡ true → length w ≤ run_end classes.Digit (w ++ after) 0
digits_long [] after all = omega arith
digits_long (d ∷ w) after all =
    let goes : next classes.Digit (d ∷ (w ++ after)) 0 ≡ 1 =
    if_true (is_digit (byte (d ∷ (w ++ after)) 0)) 1 0 (ap is_digit (moved.first_byte d (w ++ after)) ∙ and_left (is_digit d) _ all) in
    let on = sym (run_step (d ∷ (w ++ after)) classes.Digit 0 (omega (arith, goes))) ∙ ap (run_end classes.Digit (d ∷ (w ++ after))) goes
    ∙ moved.run_moved (d ∷ []) (w ++ after) classes.Digit 0 in
    let more = digits_long w after (and_right (is_digit d) _ all) in omega (arith, on, more)

exponent_starts : (b : ℕ) → starts_plainly b ≡ false → is_exponent b ≡ false
exponent_starts b e = grind (arith, nat_tests)

pub digit_white : (b : ℕ) → is_digit b ≡ true → is_white b ≡ false
digit_white b e = grind (arith, nat_tests)

-- what begins with a digit is the number there
module _ (cs : List ℕ) (n : ℕ) (first : is_digit (byte cs 0) ≡ true)
    (number_is : number_piece cs 0 ≡ made kinds.Digits n changes.Keep) where
  digit_quote : (b : ℕ) → is_digit b ≡ true → is_quote b ≡ false
  digit_quote b e = grind (arith, nat_tests)

  digit_hash : (b : ℕ) → is_digit b ≡ true → (b == sign "#") ≡ false
  digit_hash b e = grind (arith, nat_tests)

  digit_brace : (b : ℕ) → is_digit b ≡ true → (b == sign "}") ≡ false
  digit_brace b e = grind (arith, nat_tests)

  digit_slash : (b : ℕ) → is_digit b ≡ true → (b == sign "/") ≡ false
  digit_slash b e = grind (arith, nat_tests)

  calm_hash : (before : Before) → is_calm before ≡ true → after_hash before ≡ false
  calm_hash befores.Hash c = absurd (cc)
  calm_hash _ c = refl

  digit_code : (top : Inside) (before : Before) → is_calm before ≡ true
      → code_piece cs top before 0 ≡ made kinds.Digits n changes.Keep
  unfolding code_piece word_piece
  digit_code top before calm =
      if_false (is_white (byte cs 0)) _ _ (digit_white (byte cs 0) first)
      ∙ if_false (is_quote (byte cs 0)) _ _ (digit_quote (byte cs 0) first)
      ∙ if_false (opens_at cs 0) _ _ (left_no (byte cs 0 == sign "#") _ (digit_hash (byte cs 0) first))
      ∙ if_false ((byte cs 0 == sign "}") && in_interpolation top) _ _ (left_no (byte cs 0 == sign "}") _ (digit_brace (byte cs 0) first))
      ∙ if_false (begins_silent cs 0) _ _ (left_no (byte cs 0 == sign "/") _ (digit_slash (byte cs 0) first))
      ∙ if_false (begins_loud cs 0) _ _ (left_no (byte cs 0 == sign "/") _ (digit_slash (byte cs 0) first))
      ∙ if_false (after_hash before && is_hex_form cs 0) _ _ (left_no (after_hash before) _ (calm_hash before calm))
      ∙ if_true (begins_number cs 0) _ _ (yes (is_digit (byte cs 0)) _ first)
      ∙ number_is
    where
      yes : (a b : Bool) → a ≡ true → (a || b) ≡ true
      yes true b e = refl
      yes false b e = absurd (cc)

  pub number_token : (inside : Inside) (before : Before) → is_sheet_code inside ≡ true → is_calm before ≡ true
      → piece cs inside before 0 ≡ made kinds.Digits n changes.Keep
  number_token insides.Sheet before code calm = digit_code insides.Sheet before calm
  number_token insides.Interpolation before code calm = digit_code insides.Interpolation before calm
  number_token _ before code calm = absurd (cc)

module _ (w after : List ℕ) (all : list_all is_digit w ≡ true) (some : 0 < length w) (still : Still after) where
  abbrev cs : List ℕ
  cs = w ++ after

  abbrev n : ℕ
  n = length w

  here : byte cs n ≡ byte after 0
  here = texts.behind_first w [] after

  there : byte cs (n + 1) ≡ byte after 1
  there = texts.behind w [] after 1

  run : run_end classes.Digit cs 0 ≡ n
  run = digit_run w after all still.digit

  start_is : unit_start cs 0 ≡ n
  start_is =
      ap (λ (k : ℕ). exponent_end cs (fraction_end cs k)) run
      ∙ ap (exponent_end cs)
      (if_false ((byte cs n == sign ".") && is_digit (byte cs (n + 1))) (run_end classes.Digit cs (n + 1)) n
      (ap (λ (b : ℕ). (b == sign ".") && is_digit (byte cs (n + 1))) here
      ∙ ap (λ (b : ℕ). (byte after 0 == sign ".") && is_digit b) there ∙ still.point))
      ∙ if_false (is_exponent (byte cs n) && is_digit (byte cs (n + 1))) _ _ (left_no (is_exponent (byte cs n)) _ no_exponent)
      ∙ if_false (is_exponent (byte cs n) && _) _ _ (left_no (is_exponent (byte cs n)) _ no_exponent)
    where
      no_exponent : is_exponent (byte cs n) ≡ false
      no_exponent = ap is_exponent here ∙ exponent_starts (byte after 0) still.unit

  end_is : unit_end cs n ≡ n
  end_is =
      if_false (byte cs n == sign "%") _ _ (ap (λ (b : ℕ). b == sign "%") here ∙ still.percent)
      ∙ if_false (starts_plainly (byte cs n)) _ _ (ap starts_plainly here ∙ still.unit)

  same_number : (k : ℕ) → (k == k) ≡ true
  same_number k = grind (arith, nat_tests)

  number_is : number_piece cs 0 ≡ made kinds.Digits n changes.Keep
  unfolding number_piece
  number_is =
      ap (λ (k : ℕ). made (number_kind cs k (unit_start cs 0)) (unit_end cs (unit_start cs 0)) changes.Keep) run
      ∙ ap (λ (k : ℕ). made (number_kind cs n k) (unit_end cs k) changes.Keep) start_is
      ∙ ap (λ (k : ℕ). made (number_kind cs n n) k changes.Keep) end_is
      ∙ ap (λ k. made k n changes.Keep)
      (if_true ((n == n) && not (byte cs n == sign "%")) kinds.Digits kinds.Number
      (both (n == n) _ (same_number n) (ap not (ap (λ (b : ℕ). b == sign "%") here ∙ still.percent))))

  first : is_digit (byte cs 0) ≡ true
  first = ap is_digit (byte_before w after 0 some) ∙ go w all some
    where
      go : (xs : List ℕ) → list_all is_digit xs ≡ true → 0 < length xs → is_digit (byte xs 0) ≡ true
      go [] a l = absurd (omega (arith, l))
      go (d ∷ xs) a l = ap is_digit (moved.first_byte d xs) ∙ and_left (is_digit d) _ a

  pub digit_token : (inside : Inside) (before : Before) → is_sheet_code inside ≡ true → is_calm before ≡ true
      → piece cs inside before 0 ≡ made kinds.Digits n changes.Keep
  digit_token = number_token cs n first number_is

  pub digit_black : is_white (byte w 0) ≡ false
  digit_black = ap is_white (sym (byte_before w after 0 some)) ∙ digit_white (byte cs 0) first

-- ---- what stood behind digits that were a token

pub record Ended (after : List ℕ) : Type 0 where
  pub digit : is_digit (byte after 0) ≡ false
  pub unit : starts_plainly (byte after 0) ≡ false
  pub percent : (byte after 0 == sign "%") ≡ false

module _ (w after : List ℕ) (all : list_all is_digit w ≡ true)
    (end : unit_end (w ++ after) (unit_start (w ++ after) 0) ≡ length w) where
  abbrev bs : List ℕ
  bs = w ++ after

  abbrev m : ℕ
  m = length w

  low_fraction : (d : ℕ) → d ≤ fraction_end bs d
  low_fraction d = go ((byte bs d == sign ".") && is_digit (byte bs (d + 1))) (run_forward bs classes.Digit (d + 1))
    where
      go : (t : Bool) → d + 1 ≤ run_end classes.Digit bs (d + 1) → d ≤ (if t then run_end classes.Digit bs (d + 1) else d)
      go true f = omega (arith, f)
      go false f = omega arith

  low_exponent : (e : ℕ) → e ≤ exponent_end bs e
  low_exponent e =
      go (is_exponent (byte bs e) && is_digit (byte bs (e + 1))) _ (run_forward bs classes.Digit (e + 1)) (run_forward bs classes.Digit (e + 2))
    where
      go : (t u : Bool) → e + 1 ≤ run_end classes.Digit bs (e + 1) → e + 2 ≤ run_end classes.Digit bs (e + 2)
          → e ≤ (if t then run_end classes.Digit bs (e + 1) else (if u then run_end classes.Digit bs (e + 2) else e))
      go true u f g = omega (arith, f)
      go false true f g = omega (arith, g)
      go false false f g = omega arith

  low_unit : (u : ℕ) → u ≤ unit_end bs u
  low_unit u = go (byte bs u == sign "%") (starts_plainly (byte bs u)) (run_forward bs classes.Unit u)
    where
      go : (s t : Bool) → u ≤ run_end classes.Unit bs u → u ≤ (if s then u + 1 else (if t then run_end classes.Unit bs u else u))
      go true t f = omega arith
      go false true f = f
      go false false f = omega arith

  starts : unit_start bs 0 ≡ m
  starts =
      let a = digits_long w after all in
      let b = low_fraction (run_end classes.Digit bs 0) in
      let c = low_exponent (fraction_end bs (run_end classes.Digit bs 0)) in
      let d = low_unit (unit_start bs 0) in
      omega (arith, a, b, c, d, end)

  runs : run_end classes.Digit bs 0 ≡ m
  runs =
      let a = digits_long w after all in
      let b = low_fraction (run_end classes.Digit bs 0) in
      let c = low_exponent (fraction_end bs (run_end classes.Digit bs 0)) in
      let d = starts in
      omega (arith, a, b, c, d)

  place : byte bs m ≡ byte after 0
  place = texts.behind_first w [] after

  ends : unit_end bs m ≡ m
  ends = ap (unit_end bs) (sym starts) ∙ end

  pub digits_ended : Ended after
  digits_ended = record {
    digit = ap is_digit (sym place) ∙ by_digit (is_digit (byte bs m)) refl;
    unit = ap starts_plainly (sym place) ∙ by_unit (byte bs m == sign "%") (starts_plainly (byte bs m)) refl refl ends;
    percent = ap (λ (b : ℕ). b == sign "%") (sym place) ∙ by_percent (byte bs m == sign "%") (starts_plainly (byte bs m)) ends;
  }
    where
      stop : next classes.Digit bs m ≤ m
      stop = subst (λ (k : ℕ). next classes.Digit bs k ≤ k) runs (run_stops bs classes.Digit 0)

      by_digit : (t : Bool) → is_digit (byte bs m) ≡ t → t ≡ false
      by_digit true e = let on = if_true (is_digit (byte bs m)) (m + 1) m e in absurd (omega (arith, on, stop))
      by_digit false e = refl

      unit_goes : starts_plainly (byte bs m) ≡ true → m < run_end classes.Unit bs m
      unit_goes e =
          let on : next classes.Unit bs m ≡ m + 1 = if_true (goes_in_unit bs m) (m + 1) (escape_end bs m) (first_yes (starts_plainly (byte bs m)) _ e) in
          let step = run_step bs classes.Unit m (omega (arith, on)) in
          let far = run_forward bs classes.Unit (next classes.Unit bs m) in
          omega (arith, on, step, far)
        where
          first_yes : (a b : Bool) → a ≡ true → (a || b) ≡ true
          first_yes true b e = refl
          first_yes false b e = absurd (cc)

      by_unit : (s t : Bool) → (byte bs m == sign "%") ≡ s → starts_plainly (byte bs m) ≡ t
          → (if s then m + 1 else (if t then run_end classes.Unit bs m else m)) ≡ m → t ≡ false
      by_unit s false p u e = refl
      by_unit true true p u e = absurd (omega (arith, e))
      by_unit false true p u e = let far = unit_goes u in absurd (omega (arith, e, far))

      by_percent : (s t : Bool) → (if s then m + 1 else (if t then run_end classes.Unit bs m else m)) ≡ m → s ≡ false
      by_percent true t e = absurd (omega (arith, e))
      by_percent false t e = refl
