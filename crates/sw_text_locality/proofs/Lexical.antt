-- Where white space and names end, and choices.
use Rattle.std.proofs.Common.{◌≡◌, ℕ, ◌+◌, ◌≤◌, ◌<◌, Bool, true, false, ◌||◌, List, refl, arith}
use Rattle.std.specs.Prelude.{◌==◌, if◌then◌else◌}
use Rattle.std.proofs.lemmas.Bool.Decides.{nat_tests}
use Rattle.sw_text_scan.specs.declared.runs.Class.TheVariants as classes
use Rattle.sw_text_scan.specs.Bytes.{byte, is_white}
use Rattle.sw_text_scan.specs.Runs.{begins_name}
use Rattle.sw_text_scan.proofs.Bounds.{run_forward, run_stop}
use Rattle.sw_text_scan.proofs.Progress.{name_taken, run_on, run_stops}
use Rattle.sw_text_locality.specs.Names.{white, name_end}

pub equal : (b n : ℕ) → (b == n) ≡ true → b ≡ n
equal b n e = grind (arith, nat_tests)

-- an equation of a choice, by its test
pub split : {A P : Type 0} (b : Bool) (x y r : A) → (b ≡ true → x ≡ r → P) → (b ≡ false → y ≡ r → P) → (if b then x else y) ≡ r → P
split true x y r f g e = f refl e
split false x y r f g e = g refl e

pub in_or : (a b : Bool) → b ≡ true → (a || b) ≡ true
in_or true b e = refl
in_or false b e = e

module _ (bs : List ℕ) where
  pub white_forward : (i : ℕ) → i ≤ white bs i
  white_forward i = run_forward bs classes.White i

  pub white_none : (i : ℕ) → is_white (byte bs i) ≡ false → white bs i ≡ i
  white_none i e = run_stop bs classes.White i (at (is_white (byte bs i)) e)
    where
      at : (t : Bool) → t ≡ false → (if t then i + 1 else i) ≤ i
      at true f = absurd (cc)
      at false f = omega arith

  pub white_twice : (i : ℕ) → white bs (white bs i) ≡ white bs i
  white_twice i = run_stop bs classes.White (white bs i) (run_stops bs classes.White i)

  pub name_forward : (i : ℕ) → i ≤ name_end bs i
  name_forward i = run_forward bs classes.Name i

  pub name_further : (i : ℕ) → begins_name bs i ≡ true → i < name_end bs i
  name_further i m = run_on bs classes.Name i (name_taken bs i m)
