-- A scan for the end of a text goes forward, so its count of steps never matters.
use Rattle.std.proofs.Common.{◌≡◌, ℕ, zero, suc, ◌+◌, ◌≤◌, ◌<◌, Bool, true, false, List, length, refl, ◌∙◌, ap, arith, Option, Some, None}
use Rattle.std.specs.Prelude.{◌==◌, nat_lt, if◌then◌else◌}
use Rattle.std.proofs.lemmas.Bool.Decides.{nat_tests}
use Rattle.sw_text_scan.specs.declared.brackets.Stops.{Stops}
use Rattle.sw_text_scan.specs.declared.brackets.TheConstants.{NO_BRACKET}
use Rattle.sw_text_scan.specs.declared.runs.Class.TheVariants as classes
use Rattle.sw_text_scan.specs.declared.signs.TheConstants.{END}
use Rattle.sw_text_scan.specs.Bytes.{byte, is_quote}
use Rattle.sw_text_scan.specs.Runs.{escape_end, run_end}
use Rattle.sw_text_scan.specs.Brackets.{closing, is_closing, innermost, over, string_end, Scan, at_place, past_string, scan_step, stopped, scan_by, scan_from, StopsByStep}
use Rattle.sw_text_scan.proofs.Bounds.{in_text, not_end, escape_onward, run_forward}
use Rattle.sw_text_scan.proofs.Progress.{either}

module _ (bs : List ℕ) where
  abbrev Goes : ℕ → Option Scan → Type 0
  Goes i None = Unit {0}
  Goes i (Some scan) = (i < scan.place) × (scan.place ≤ length bs)

  over_goes : (i : ℕ) (closers : List ℕ) → i < length bs → Goes i (Some (at_place closers (over bs i)))
  unfolding over
  over_goes i closers lt =
      either (λ (j : ℕ). (i < j) × (j ≤ length bs)) (nat_lt i (escape_end bs i)) (escape_end bs i) (i + 1)
      (λ m. let on = (escape_onward bs i (omega arith)).within in (grind (arith, nat_tests), on)) (λ _. (omega arith, omega arith))

  same_byte : (a b : ℕ) → (a == b) ≡ true → a ≡ b
  same_byte a b m = grind (arith, nat_tests)

  ended : (i end q : ℕ) (closers : List ℕ) → is_quote q ≡ true → i + 1 ≤ end
      → Goes i (past_string closers (if byte bs end == q then Some (end + 1) else None))
  ended i end q closers quote on =
      either (λ (o : Option ℕ). Goes i (past_string closers o)) (byte bs end == q) (Some (end + 1)) None
      (λ m. let lt = in_text is_quote bs end refl (ap is_quote (same_byte (byte bs end) q m) ∙ quote) in (omega (arith, on), omega (arith, lt)))
      (λ _. tt)

  string_goes : (i q : ℕ) (closers : List ℕ) → is_quote q ≡ true → Goes i (past_string closers (string_end bs q i))
  unfolding string_end
  string_goes i q closers quote =
      ended i (run_end (classes.Text q) bs (i + 1)) q closers quote (run_forward bs (classes.Text q) (i + 1))

  step_goes : (closers : List ℕ) (i : ℕ) → Goes i (scan_step bs closers i)
  unfolding scan_step
  step_goes closers i =
      either (Goes i) (byte bs i == END) None _ (λ _. tt)
      (λ e. let lt = not_end bs i e in
      either (Goes i) (is_quote (byte bs i)) _ _ (λ q. string_goes i (byte bs i) closers q)
      (λ _. either (Goes i) (nat_lt NO_BRACKET (closing (byte bs i))) _ _ (λ _. (omega arith, omega (arith, lt)))
      (λ _. either (Goes i) (is_closing (byte bs i)) _ _
      (λ _. either (Goes i) (innermost closers == byte bs i) _ None (λ _. (omega arith, omega (arith, lt))) (λ _. tt))
      (λ _. over_goes i closers lt))))

  module _ (to : Stops) where
    go_on : (n m i : ℕ) (t : Bool) (o : Option Scan) → Goes i o
        → ((scan : Scan) → (i < scan.place) × (scan.place ≤ length bs) → scan_from to bs n scan.closers scan.place ≡ scan_from to bs m scan.closers scan.place)
        → (if t then Some i else scan_by (scan_from to bs n) o) ≡ (if t then Some i else scan_by (scan_from to bs m) o)
    go_on n m i true o g ih = refl
    go_on n m i false None g ih = refl
    go_on n m i false (Some scan) g ih = ih scan g

    scan_fuel : (n m : ℕ) (closers : List ℕ) (i : ℕ) → i ≤ length bs → length bs < n + i → length bs < m + i → scan_from to bs n closers i ≡ scan_from to bs m closers i
    scan_fuel zero m closers i l a b = absurd (omega arith)
    scan_fuel (suc n) zero closers i l a b = absurd (omega arith)
    scan_fuel (suc n) (suc m) closers i l a b =
        go_on n m i (stopped to bs closers i) (scan_step bs closers i) (step_goes closers i)
        (λ scan g. scan_fuel n m scan.closers scan.place g.1 (let h = g.0 in omega arith) (let h = g.0 in omega arith))

    one_more : length bs + 1 ≡ suc (length bs)
    one_more = omega arith

    by_step : (closers : List ℕ) (i : ℕ) → StopsByStep to bs closers i
    by_step closers i =
        ap (λ (n : ℕ). scan_from to bs n closers i) one_more
        ∙ go_on (length bs) (length bs + 1) i (stopped to bs closers i) (scan_step bs closers i) (step_goes closers i)
        (λ scan g. scan_fuel (length bs) (length bs + 1) scan.closers scan.place g.1 (let h = g.0 in omega arith) (let h = g.0 in omega arith))

pub stops_by_step : (to : Stops) (bs closers : List ℕ) (i : ℕ) → StopsByStep to bs closers i
stops_by_step to bs closers i = by_step bs to closers i
