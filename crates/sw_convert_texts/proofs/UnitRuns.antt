-- A number whose unit may hold escapes, and may begin with an `e`, is the same token before what goes on with none.
use Rattle.std.proofs.Common.{◌≡◌, ◌⊎◌, ◌≤◌, ◌<◌, ℕ, ◌+◌, Bool, true, false, not, ◌&&◌, if◌then◌else◌, List, [], ◌∷◌, ◌++◌, length, inl, inr, refl, sym, ◌∙◌, ap, subst, arith, append-nil, append_assoc, length-append}
use Rattle.std.specs.Prelude.{◌==◌}
use Rattle.std.specs.List.{list_all}
use Rattle.std.proofs.lemmas.Bool.Decides.{nat_tests}
use Rattle.sw_text_scan.specs.declared.runs.Class.TheVariants as classes
use Rattle.sw_text_scan.specs.Bytes.{sign, byte, is_digit, starts_plainly}
use Rattle.sw_text_scan.specs.Runs.{next, run_end}
use Rattle.sw_text_scan.specs.Words.{fraction_end, exponent_end, is_exponent, is_plus_or_minus, unit_start, unit_end}
use Rattle.sw_text_scan.proofs.Bounds.{if_true, if_false, and_left, and_right, run_forward}
use Rattle.sw_text_scan.proofs.Progress.{run_stops}
use Rattle.sw_text_locality.proofs.Written.{byte_before}
use Rattle.sw_tokens.specs.declared.pieces.Before.{Before}
use Rattle.sw_tokens.specs.declared.pieces.Change.TheVariants as changes
use Rattle.sw_tokens.specs.declared.skips.Inside.{Inside}
use Rattle.sw_tokens.specs.declared.token.TokenKind.TheVariants as kinds
use Rattle.sw_tokens.specs.Pieces.{made, piece, number_kind, number_piece}
use Rattle.sw_convert_spelling.specs.Spelt.{is_sheet_code}
use Rattle.sw_convert_spelling.proofs.MovedRuns as moved
use Rattle.sw_convert_spelling.proofs.NumeralTokens.{second_byte}
use Rattle.sw_convert_spelling.proofs.Again as texts
use Rattle.sw_convert_spelling.proofs.Choices.{left_no, right_no, both}
use Rattle.sw_convert_tokens.specs.Written.{is_calm, begins_white}
use Rattle.sw_convert_tokens.proofs.NumberEnds.{no_sign}
use Rattle.sw_convert_tokens.proofs.Numbers.{Quiet, quiet_unclosed}
use Rattle.sw_convert_tokens.proofs.Units.{UnitEnds, unit_stays}
use Rattle.sw_convert_texts.proofs.DigitTokens.{digit_run, number_token}

start_digit : (b : ℕ) → starts_plainly b ≡ true → is_digit b ≡ false
start_digit b e = grind (arith, nat_tests)

start_dot : (b : ℕ) → starts_plainly b ≡ true → (b == sign ".") ≡ false
start_dot b e = grind (arith, nat_tests)

start_percent : (b : ℕ) → starts_plainly b ≡ true → (b == sign "%") ≡ false
start_percent b e = grind (arith, nat_tests)

-- ---- what a unit begins with is no power of ten

pub record NoPower (xs : List ℕ) : Type 0 where
  pub digits : (is_exponent (byte xs 0) && is_digit (byte xs 1)) ≡ false
  pub signed : (is_exponent (byte xs 0) && (is_plus_or_minus (byte xs 1) && is_digit (byte xs 2))) ≡ false

-- a unit that may begin one: an `e` alone
abbrev pub is_power : List ℕ → Bool
is_power (b ∷ []) = is_exponent b
is_power _ = false

power_again : (unit old after : List ℕ) → starts_plainly (byte unit 0) ≡ true → NoPower (unit ++ old)
    → run_end classes.Unit (unit ++ after) 0 ≡ length unit → is_digit (byte after 0) ≡ false
    → (is_power unit ≡ true → (is_plus_or_minus (byte after 0) && is_digit (byte after 1)) ≡ false)
    → NoPower (unit ++ after)
unfolding byte
power_again [] old after begins was run digit sharp = absurd (cc)
power_again (b ∷ []) old after begins was run digit sharp = record {
  digits = right_no (is_exponent (byte (b ∷ after) 0)) _ (ap is_digit (second_byte b after) ∙ digit);
  signed = go (is_exponent b) refl;
}
  where
    go : (t : Bool) → is_exponent b ≡ t
        → (is_exponent (byte (b ∷ after) 0) && (is_plus_or_minus (byte (b ∷ after) 1) && is_digit (byte (b ∷ after) 2))) ≡ false
    go true t =
        right_no (is_exponent (byte (b ∷ after) 0)) _
        (ap (λ (x : ℕ). is_plus_or_minus x && is_digit (byte (b ∷ after) 2)) (second_byte b after)
        ∙ ap (λ (x : ℕ). is_plus_or_minus (byte after 0) && is_digit x) (moved.at_byte (b ∷ []) after 1) ∙ sharp t)
    go false t = left_no (is_exponent (byte (b ∷ after) 0)) _ (ap is_exponent (moved.first_byte b after) ∙ t)
power_again (b ∷ c ∷ unit) old after begins was run digit sharp =
    let first : byte (b ∷ (c ∷ (unit ++ after))) 0 ≡ byte (b ∷ (c ∷ (unit ++ old))) 0 =
    moved.first_byte b (c ∷ (unit ++ after)) ∙ sym (moved.first_byte b (c ∷ (unit ++ old))) in
    let second : byte (b ∷ (c ∷ (unit ++ after))) 1 ≡ byte (b ∷ (c ∷ (unit ++ old))) 1 =
    second_byte b (c ∷ (unit ++ after)) ∙ moved.first_byte c (unit ++ after)
    ∙ sym (second_byte b (c ∷ (unit ++ old)) ∙ moved.first_byte c (unit ++ old)) in record {
      digits =
          ap (λ (x : ℕ). is_exponent x && is_digit (byte (b ∷ (c ∷ (unit ++ after))) 1)) first
          ∙ ap (λ (x : ℕ). is_exponent (byte (b ∷ (c ∷ (unit ++ old))) 0) && is_digit x) second ∙ was.digits;
      signed =
          right_no (is_exponent (byte (b ∷ (c ∷ (unit ++ after))) 0)) _
          (no_sign (b ∷ (c ∷ (unit ++ after))) (omega (arith, run))
          (ap starts_plainly (moved.first_byte b (c ∷ (unit ++ after)) ∙ sym (moved.first_byte b (c ∷ unit))) ∙ begins));
    }

-- ---- digits, and a unit behind them

-- the unit ended before what stood there
pub record HasUnit (w old : List ℕ) : Type 0 where
  pub digits : List ℕ
  pub unit : List ℕ
  pub same : w ≡ digits ++ unit
  pub all : list_all is_digit digits ≡ true
  pub begins : starts_plainly (byte unit 0) ≡ true
  pub run : run_end classes.Unit (unit ++ old) 0 ≡ length unit
  pub power : NoPower (unit ++ old)

record Cut (w : List ℕ) : Type 0 where
  digits : List ℕ
  unit : List ℕ
  same : w ≡ digits ++ unit
  all : list_all is_digit digits ≡ true
  bare : is_digit (byte unit 0) ≡ false

cut : (w : List ℕ) → Cut w
unfolding byte
cut [] = record { digits = []; unit = []; same = refl; all = refl; bare = refl }
cut (b ∷ w) = go (is_digit b) refl (cut w)
  where
    go : (t : Bool) → is_digit b ≡ t → Cut w → Cut (b ∷ w)
    go true d c = record {
      digits = b ∷ c.digits;
      unit = c.unit;
      same = ap (λ (t : List ℕ). b ∷ t) c.same;
      all = both (is_digit b) (list_all is_digit c.digits) d c.all;
      bare = c.bare;
    }
    go false d c = record { digits = []; unit = b ∷ w; same = refl; all = refl; bare = ap is_digit (moved.first_byte b w) ∙ d }

module _ (digits : List ℕ) (b : ℕ) (unit old : List ℕ) (all : list_all is_digit digits ≡ true)
    (bare : is_digit (byte (b ∷ unit) 0) ≡ false) where
  abbrev ys : List ℕ
  ys = b ∷ (unit ++ old)

  abbrev bs : List ℕ
  bs = digits ++ ys

  abbrev n : ℕ
  n = length digits

  module _ (whole : run_end classes.Digit bs 0 ≡ unit_start bs 0) (percent : (byte bs (unit_start bs 0) == sign "%") ≡ false)
      (ends : unit_end bs (unit_start bs 0) ≡ length (digits ++ b ∷ unit)) where
    run_is : run_end classes.Digit bs 0 ≡ n
    run_is =
        digit_run digits ys all (ap is_digit (moved.first_byte b (unit ++ old) ∙ sym (moved.first_byte b unit)) ∙ bare)

    start_is : unit_start bs 0 ≡ n
    start_is = sym whole ∙ run_is

    here : byte bs n ≡ byte ys 0
    here = texts.behind_first digits [] ys

    long : n < length (digits ++ b ∷ unit)
    long = let l = length-append digits (b ∷ unit) in omega (arith, l)

    end_is : unit_end bs n ≡ length (digits ++ b ∷ unit)
    end_is = ap (unit_end bs) (sym start_is) ∙ ends

    no_percent : (byte bs n == sign "%") ≡ false
    no_percent = ap (λ (k : ℕ). byte bs k == sign "%") (sym start_is) ∙ percent

    plain : starts_plainly (byte bs n) ≡ true
    plain = go (starts_plainly (byte bs n)) refl
      where
        go : (t : Bool) → starts_plainly (byte bs n) ≡ t → t ≡ true
        go true t = refl
        go false t =
            let none = if_false (byte bs n == sign "%") (n + 1) _ no_percent
            ∙ if_false (starts_plainly (byte bs n)) (run_end classes.Unit bs n) n t in
            let end = end_is in
            let l = long in absurd (omega (arith, none, end, l))

    unit_runs : run_end classes.Unit ys 0 ≡ length (b ∷ unit)
    unit_runs =
        let there = if_false (byte bs n == sign "%") (n + 1) _ no_percent
        ∙ if_true (starts_plainly (byte bs n)) (run_end classes.Unit bs n) n plain in
        let moved_run = ap (run_end classes.Unit bs) (let z : n ≡ n + 0 = omega arith in z)
        ∙ moved.run_moved digits ys classes.Unit 0 in
        let end = end_is in
        let l = length-append digits (b ∷ unit) in omega (arith, there, moved_run, end, l)

    power_end : exponent_end bs n ≡ n
    power_end =
        ap (exponent_end bs)
        (sym (if_false ((byte bs n == sign ".") && is_digit (byte bs (n + 1))) (run_end classes.Digit bs (n + 1)) n
        (left_no (byte bs n == sign ".") _ (start_dot (byte bs n) plain))))
        ∙ ap (λ (k : ℕ). exponent_end bs (fraction_end bs k)) (sym run_is) ∙ start_is

    neither_power : ((is_exponent (byte bs n) && is_digit (byte bs (n + 1))) ≡ false)
        × ((is_exponent (byte bs n) && (is_plus_or_minus (byte bs (n + 1)) && is_digit (byte bs (n + 2)))) ≡ false)
    neither_power =
        go (is_exponent (byte bs n) && is_digit (byte bs (n + 1)))
        (is_exponent (byte bs n) && (is_plus_or_minus (byte bs (n + 1)) && is_digit (byte bs (n + 2)))) power_end
        (run_forward bs classes.Digit (n + 1)) (run_forward bs classes.Digit (n + 2))
      where
        go : (t u : Bool) → (if t then run_end classes.Digit bs (n + 1) else (if u then run_end classes.Digit bs (n + 2) else n)) ≡ n
            → n + 1 ≤ run_end classes.Digit bs (n + 1) → n + 2 ≤ run_end classes.Digit bs (n + 2) → (t ≡ false) × (u ≡ false)
        go true u e f g = absurd (omega (arith, e, f))
        go false true e f g = absurd (omega (arith, e, g))
        go false false e f g = (refl, refl)

    found : HasUnit (digits ++ b ∷ unit) old
    found =
        let second : byte bs (n + 1) ≡ byte ys 1 = texts.behind digits [] ys 1 in
        let third : byte bs (n + 2) ≡ byte ys 2 = texts.behind digits [] ys 2 in record {
          digits = digits;
          unit = b ∷ unit;
          same = refl;
          all = all;
          begins = ap starts_plainly (moved.first_byte b unit ∙ sym (moved.first_byte b (unit ++ old)) ∙ sym here) ∙ plain;
          run = unit_runs;
          power = record {
            digits =
                ap (λ (x : ℕ). is_exponent x && is_digit (byte ys 1)) (sym here)
                ∙ ap (λ (x : ℕ). is_exponent (byte bs n) && is_digit x) (sym second) ∙ neither_power.0;
            signed =
                ap (λ (x : ℕ). is_exponent x && (is_plus_or_minus (byte ys 1) && is_digit (byte ys 2))) (sym here)
                ∙ ap (λ (x : ℕ). is_exponent (byte bs n) && (is_plus_or_minus x && is_digit (byte ys 2))) (sym second)
                ∙ ap (λ (x : ℕ). is_exponent (byte bs n) && (is_plus_or_minus (byte bs (n + 1)) && is_digit x)) (sym third)
                ∙ neither_power.1;
          };
        }

-- digits that end where the unit begins: by themselves, or with it
pub cut_unit : (w old : List ℕ) → run_end classes.Digit (w ++ old) 0 ≡ unit_start (w ++ old) 0
    → (byte (w ++ old) (unit_start (w ++ old) 0) == sign "%") ≡ false
    → unit_end (w ++ old) (unit_start (w ++ old) 0) ≡ length w → (list_all is_digit w ≡ true) ⊎ HasUnit w old
cut_unit w old whole percent ends = go (cut w).unit (cut w).same (cut w).bare
  where
    digits : List ℕ
    digits = (cut w).digits

    go : (unit : List ℕ) → w ≡ digits ++ unit → is_digit (byte unit 0) ≡ false → (list_all is_digit w ≡ true) ⊎ HasUnit w old
    go [] same bare = inl (ap (list_all is_digit) (same ∙ append-nil digits) ∙ (cut w).all)
    go (b ∷ unit) same bare =
        let text : w ++ old ≡ digits ++ (b ∷ (unit ++ old)) =
        ap (λ (t : List ℕ). t ++ old) same ∙ append_assoc digits (b ∷ unit) old in
        inr
        (subst (λ (t : List ℕ). HasUnit t old) (sym same)
        (found digits b unit old (cut w).all bare
        (subst (λ (t : List ℕ). run_end classes.Digit t 0 ≡ unit_start t 0) text whole)
        (subst (λ (t : List ℕ). (byte t (unit_start t 0) == sign "%") ≡ false) text percent)
        (subst (λ (t : List ℕ). unit_end t (unit_start t 0) ≡ length w) text ends ∙ ap length same)))

-- ---- the number before other text

digits_quiet : (digits : List ℕ) → list_all is_digit digits ≡ true → Quiet digits
digits_quiet [] all = tt
digits_quiet (d ∷ digits) all = (slash_no d (and_left (is_digit d) _ all), digits_quiet digits (and_right (is_digit d) _ all))
  where
    slash_no : (b : ℕ) → is_digit b ≡ true → (b == sign "\\") ≡ false
    slash_no b e = grind (arith, nat_tests)

-- what stands behind goes on with no such number
pub record Unmixed (power : Bool) (w after : List ℕ) : Type 0 where
  pub ends : UnitEnds w after
  pub digit : is_digit (byte after 0) ≡ false
  pub sharp : power ≡ true → (is_plus_or_minus (byte after 0) && is_digit (byte after 1)) ≡ false

unit_some : (unit : List ℕ) → starts_plainly (byte unit 0) ≡ true → 0 < length unit
unfolding byte
unit_some [] e = absurd (cc)
unit_some (b ∷ unit) e = omega arith

module _ (digits unit old after : List ℕ) (all : list_all is_digit digits ≡ true)
    (begins : starts_plainly (byte unit 0) ≡ true) (was : run_end classes.Unit (unit ++ old) 0 ≡ length unit)
    (power : NoPower (unit ++ old)) (it : Unmixed (is_power unit) (digits ++ unit) after) where
  abbrev xs : List ℕ
  xs = digits ++ (unit ++ after)

  abbrev d : ℕ
  d = length digits

  unit_after : UnitEnds unit after
  unit_after =
      let e = it.ends in record {
        stop = e.stop;
        hex = e.hex;
        feed = e.feed;
        closed =
            ap (λ (t : Bool). begins_white after && t) (sym (quiet_unclosed digits unit (digits_quiet digits all))) ∙ e.closed;
      }

  runs : run_end classes.Unit (unit ++ after) 0 ≡ length unit
  runs =
      unit_stays unit old after
      (subst (λ (k : ℕ). next classes.Unit (unit ++ old) k ≤ k) was (run_stops (unit ++ old) classes.Unit 0)) unit_after was

  no_power : NoPower (unit ++ after)
  no_power = power_again unit old after begins power runs it.digit it.sharp

  first : byte (unit ++ after) 0 ≡ byte unit 0
  first = byte_before unit after 0 (unit_some unit begins)

  new_here : byte xs d ≡ byte (unit ++ after) 0
  new_here = texts.behind_first digits [] (unit ++ after)

  there : byte xs (d + 1) ≡ byte (unit ++ after) 1
  there = texts.behind digits [] (unit ++ after) 1

  further : byte xs (d + 2) ≡ byte (unit ++ after) 2
  further = texts.behind digits [] (unit ++ after) 2

  digits_end : run_end classes.Digit xs 0 ≡ d
  digits_end = digit_run digits (unit ++ after) all (ap is_digit first ∙ start_digit (byte unit 0) begins)

  begins_here : starts_plainly (byte xs d) ≡ true
  begins_here = ap starts_plainly (new_here ∙ first) ∙ begins

  unit_begins : unit_start xs 0 ≡ d
  unit_begins =
      ap (λ (k : ℕ). exponent_end xs (fraction_end xs k)) digits_end
      ∙ ap (exponent_end xs)
      (if_false ((byte xs d == sign ".") && is_digit (byte xs (d + 1))) (run_end classes.Digit xs (d + 1)) d
      (left_no (byte xs d == sign ".") _ (start_dot (byte xs d) begins_here)))
      ∙ if_false (is_exponent (byte xs d) && is_digit (byte xs (d + 1))) _ _
      (ap (λ (x : ℕ). is_exponent x && is_digit (byte xs (d + 1))) new_here
      ∙ ap (λ (x : ℕ). is_exponent (byte (unit ++ after) 0) && is_digit x) there ∙ no_power.digits)
      ∙ if_false (is_exponent (byte xs d) && (is_plus_or_minus (byte xs (d + 1)) && is_digit (byte xs (d + 2)))) _ _
      (ap (λ (x : ℕ). is_exponent x && (is_plus_or_minus (byte xs (d + 1)) && is_digit (byte xs (d + 2)))) new_here
      ∙ ap (λ (x : ℕ). is_exponent (byte (unit ++ after) 0) && (is_plus_or_minus x && is_digit (byte xs (d + 2)))) there
      ∙ ap (λ (x : ℕ). is_exponent (byte (unit ++ after) 0) && (is_plus_or_minus (byte (unit ++ after) 1) && is_digit x)) further
      ∙ no_power.signed)

  percent_no : (byte xs d == sign "%") ≡ false
  percent_no = start_percent (byte xs d) begins_here

  unit_ends_is : unit_end xs d ≡ d + run_end classes.Unit (unit ++ after) 0
  unit_ends_is =
      if_false (byte xs d == sign "%") _ _ percent_no
      ∙ if_true (starts_plainly (byte xs d)) _ _ begins_here
      ∙ ap (run_end classes.Unit xs) (let z : d ≡ d + 0 = omega arith in z)
      ∙ moved.run_moved digits (unit ++ after) classes.Unit 0

  same_number : (k : ℕ) → (k == k) ≡ true
  same_number k = grind (arith, nat_tests)

  unit_number : number_piece xs 0 ≡ made kinds.Digits (length (digits ++ unit)) changes.Keep
  unfolding number_piece
  unit_number =
      ap (λ (k : ℕ). made (number_kind xs k (unit_start xs 0)) (unit_end xs (unit_start xs 0)) changes.Keep) digits_end
      ∙ ap (λ (k : ℕ). made (number_kind xs d k) (unit_end xs k) changes.Keep) unit_begins
      ∙ ap (λ (k : ℕ). made (number_kind xs d d) k changes.Keep)
      (unit_ends_is ∙ ap (λ (k : ℕ). d + k) runs ∙ sym (length-append digits unit))
      ∙ ap (λ k. made k (length (digits ++ unit)) changes.Keep)
      (if_true ((d == d) && not (byte xs d == sign "%")) kinds.Digits kinds.Number
      (both (d == d) _ (same_number d) (ap not percent_no)))

pub unit_token : (w old after : List ℕ) (it : HasUnit w old) → is_digit (byte w 0) ≡ true → 0 < length w
    → Unmixed (is_power it.unit) w after → (inside : Inside) (before : Before) → is_sheet_code inside ≡ true
    → is_calm before ≡ true → piece (w ++ after) inside before 0 ≡ made kinds.Digits (length w) changes.Keep
unit_token w old after it digit some so =
    number_token (w ++ after) (length w) (ap is_digit (byte_before w after 0 some) ∙ digit)
    (ap (λ (t : List ℕ). number_piece t 0) (ap (λ (t : List ℕ). t ++ after) it.same ∙ append_assoc it.digits it.unit after)
    ∙ unit_number it.digits it.unit old after it.all it.begins it.run it.power
    (subst (λ (t : List ℕ). Unmixed (is_power it.unit) t after) it.same so)
    ∙ ap (λ (t : List ℕ). made kinds.Digits (length t) changes.Keep) (sym it.same))

-- nothing went on with the unit where it ended
pub unit_ended : (w old : List ℕ) → HasUnit w old → next classes.Unit old 0 ≤ 0
unit_ended w old it =
    let stop : next classes.Unit (it.unit ++ old) (length it.unit) ≤ length it.unit =
    subst (λ (m : ℕ). next classes.Unit (it.unit ++ old) m ≤ m) it.run (run_stops (it.unit ++ old) classes.Unit 0) in
    let there : next classes.Unit (it.unit ++ old) (length it.unit) ≡ length it.unit + next classes.Unit old 0 =
    ap (next classes.Unit (it.unit ++ old)) (let z : length it.unit ≡ length it.unit + 0 = omega arith in z)
    ∙ moved.next_moved it.unit old classes.Unit 0 in omega (arith, stop, there)
