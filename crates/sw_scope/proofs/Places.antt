-- The last place of a name.
use Rattle.std.proofs.Common.{◌≡◌, ℕ, zero, suc, ◌-◌, ◌<◌, List, [], ◌∷◌, length, drop, get_or, bytes_eq, true, Some, None, refl, subst, arith}
use Rattle.sw_values.specs.declared.plain.Plain.{Plain}
use Rattle.sw_scope.specs.Frames.{place}

here : (vs : List (List ℕ × Plain)) (name : List ℕ) (i : ℕ) (v : List ℕ × Plain) → i < length vs → bytes_eq (get_or vs i v).0 name ≡ true
    → place (drop (suc i) vs) name ≡ None → place vs name ≡ Some i
here [] name i v lt same none = absurd (omega arith)
here (x ∷ vs) name zero v lt same none = rw (none, same) refl
here (x ∷ vs) name (suc i) v lt same none = rw (here vs name i v (omega arith) same none) refl

pub place_here : (vs : List (List ℕ × Plain)) (name : List ℕ) (j : ℕ) (v : List ℕ × Plain) → 0 < j → j - 1 < length vs → bytes_eq (get_or vs (j - 1) v).0 name ≡ true
    → place (drop j vs) name ≡ None → place vs name ≡ Some (j - 1)
place_here vs name j v some lt same none =
    let e : j ≡ suc (j - 1) = omega arith in
    here vs name (j - 1) v lt same (subst (λ (n : ℕ). place (drop n vs) name ≡ None) e none)
