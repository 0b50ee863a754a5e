-- A value that passes no limit, or one of them.
use Rattle.std.proofs.Common.{◌≡◌, ◌≤◌, ◌<◌, ℕ, Bool, true, false, ◌&&◌, nat_le, refl, arith}
use Rattle.std.proofs.lemmas.Bool.Decides.{nat_tests}
use Rattle.sw_values.specs.declared.plain.Plain.{Plain}
use Rattle.sw_values.specs.Weight.{weigh, nest, most, deepest, is_within}
use Rattle.sw_values.specs.Shape.{IsCapped}

is_le : (n m : ℕ) → n ≤ m → nat_le n m ≡ true
is_le n m le = grind (arith, nat_tests)

not_le : (n m : ℕ) → m < n → nat_le n m ≡ false
not_le n m lt = grind (arith, nat_tests)

false-right : (b : Bool) → (b && false) ≡ false
false-right true = refl
false-right false = refl

pub within : (value : Plain) (seen : ℕ) → IsCapped most (weigh value) seen → seen ≤ most → nest value ≤ deepest → is_within value ≡ true
within value seen capped le flat = rw (is_le _ _ (rw (capped.small le) at le), is_le _ _ flat) refl

pub too_heavy : (value : Plain) (seen : ℕ) → IsCapped most (weigh value) seen → most < seen → is_within value ≡ false
too_heavy value seen capped lt = rw (not_le _ _ (capped.large lt)) refl

pub heavier : (value : Plain) → most < weigh value → is_within value ≡ false
heavier value lt = rw (not_le _ _ lt) refl

pub too_deep : (value : Plain) → deepest < nest value → is_within value ≡ false
too_deep value lt = rw (not_le _ _ lt) (false-right _)
