-- One step of a scan.
use Rattle.std.proofs.Common.{◌≡◌, ℕ, zero, suc, ◌-◌, ◌<◌, true, false, List, ◌∙◌, ap, arith, Some, None}
use Rattle.sw_text_scan.specs.declared.brackets.Stops.{Stops}
use Rattle.sw_text_scan.specs.Brackets.{at_place, scan_step, stopped, scan_by, scan_from}
use Rattle.sw_text_scan.proofs.Bounds.{if_true, if_false}

module _ (to : Stops) (bs : List ℕ) where
  pub scan_found : (n : ℕ) (closers : List ℕ) (i : ℕ) → 0 < n → stopped to bs closers i ≡ true → scan_from to bs n closers i ≡ Some i
  scan_found zero closers i z e = absurd (omega arith)
  scan_found (suc n) closers i z e = if_true (stopped to bs closers i) (Some i) (scan_by (scan_from to bs n) (scan_step bs closers i)) e

  pub scan_lost : (n : ℕ) (closers : List ℕ) (i : ℕ) → 0 < n → stopped to bs closers i ≡ false → scan_step bs closers i ≡ None → scan_from to bs n closers i ≡ None
  scan_lost zero closers i z e f = absurd (omega arith)
  scan_lost (suc n) closers i z e f =
      if_false (stopped to bs closers i) (Some i) (scan_by (scan_from to bs n) (scan_step bs closers i)) e ∙ ap (scan_by (scan_from to bs n)) f

  pub scan_on : (n : ℕ) (closers : List ℕ) (i : ℕ) (more : List ℕ) (j : ℕ) → 0 < n → stopped to bs closers i ≡ false → scan_step bs closers i ≡ Some (at_place more j)
      → scan_from to bs n closers i ≡ scan_from to bs (n - 1) more j
  scan_on zero closers i more j z e f = absurd (omega arith)
  scan_on (suc n) closers i more j z e f =
      if_false (stopped to bs closers i) (Some i) (scan_by (scan_from to bs n) (scan_step bs closers i)) e
      ∙ ap (scan_by (scan_from to bs n)) f
      ∙ ap (λ (k : ℕ). scan_from to bs k more j) less
    where
      less : n ≡ suc n - 1
      less = omega arith
