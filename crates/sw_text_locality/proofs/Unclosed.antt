-- One more name character, and the last.
use Rattle.std.proofs.Common.{◌≡◌, ℕ, zero, suc, ◌+◌, ◌-◌, ◌≤◌, ◌<◌, Bool, true, false, List, length, refl, sym, ◌∙◌, ap, arith}
use Rattle.std.specs.Prelude.{nat_lt, if◌then◌else◌}
use Rattle.std.proofs.lemmas.Bool.Decides.{nat_tests}
use Rattle.sw_text_scan.specs.declared.runs.Class.TheVariants as classes
use Rattle.sw_text_scan.specs.Runs.{next}
use Rattle.sw_text_scan.proofs.Bounds.{next_from, next_within, if_true, if_false}
use Rattle.sw_text_locality.specs.Names.{is_unclosed, unclosed_from}

module _ (bs : List ℕ) where
  abbrev on : ℕ → ℕ
  on i = next classes.Name bs i

  -- the count of characters never matters
  enough : (n m i : ℕ) (before : Bool) → i ≤ length bs → length bs ≤ n + i → length bs ≤ m + i → unclosed_from bs n before i ≡ unclosed_from bs m before i
  enough zero zero i before l a b = refl
  enough zero (suc m) i before l a b =
      sym (if_false (nat_lt i (on i)) (unclosed_from bs m (is_unclosed bs i) (on i)) before (let w = next_within bs classes.Name i l in grind (arith, nat_tests)))
  enough (suc n) zero i before l a b =
      if_false (nat_lt i (on i)) (unclosed_from bs n (is_unclosed bs i) (on i)) before (let w = next_within bs classes.Name i l in grind (arith, nat_tests))
  enough (suc n) (suc m) i before l a b =
      both (nat_lt i (on i)) refl
      (λ e. let w = next_within bs classes.Name i l in let lt : i < on i = grind (arith, nat_tests) in enough n m (on i) (is_unclosed bs i) w (omega arith) (omega arith))
    where
      both : (t : Bool) → nat_lt i (on i) ≡ t
          → (nat_lt i (on i) ≡ true → unclosed_from bs n (is_unclosed bs i) (on i) ≡ unclosed_from bs m (is_unclosed bs i) (on i))
          → (if t then unclosed_from bs n (is_unclosed bs i) (on i) else before) ≡ (if t then unclosed_from bs m (is_unclosed bs i) (on i) else before)
      both true e ih = ih e
      both false e ih = refl

  pub unclosed_step : (i : ℕ) (before : Bool) → i < on i → unclosed_from bs (length bs - on i) (is_unclosed bs i) (on i) ≡ unclosed_from bs (length bs - i) before i
  unclosed_step i before lt =
      let from = next_from bs classes.Name i lt in
      let within = next_within bs classes.Name i (omega arith) in
      enough (length bs - on i) (length bs - suc i) (on i) (is_unclosed bs i) within (omega arith) (omega arith)
      ∙ sym (ap (λ (n : ℕ). unclosed_from bs n before i) (one_less (omega arith))
      ∙ if_true (nat_lt i (on i)) (unclosed_from bs (length bs - suc i) (is_unclosed bs i) (on i)) before (grind (arith, nat_tests)))
    where
      one_less : i < length bs → length bs - i ≡ suc (length bs - suc i)
      one_less h = omega arith

  -- what takes something stands in the text
  pub unclosed_from_text : (i n : ℕ) → n ≡ on i → i < n → i < length bs
  unclosed_from_text i n e lt = next_from bs classes.Name i (omega (arith, e, lt))

  pub unclosed_stop : (i : ℕ) (before : Bool) → on i ≤ i → unclosed_from bs (length bs - i) before i ≡ before
  unclosed_stop i before l = go (length bs - i)
    where
      go : (n : ℕ) → unclosed_from bs n before i ≡ before
      go zero = refl
      go (suc n) = if_false (nat_lt i (on i)) (unclosed_from bs n (is_unclosed bs i) (on i)) before (grind (arith, nat_tests))
