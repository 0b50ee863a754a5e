-- The first key that comes a second time.
use Rattle.std.proofs.Common.{◌≡◌, ℕ, zero, suc, ◌+◌, true, false, bytes_eq, List, [], ◌∷◌, ◌++◌, map, take, slice_get, append_assoc, append-nil, add-zero, Some, None, refl, ap, ◌∙◌, arith}
use Rattle.std.specs.List.{IsDistinct, AllByRecursion, list_any}
use Rattle.std.specs.Cmp.Lexicographic.{nat_list_eq_equiv}
use Rattle.sw_values.specs.declared.plain.Plain.{Plain}
use Rattle.sw_values.specs.Canon.{key_canon}
use Rattle.sw_values.specs.Maps.{AreDistinct, IsDuplicate}
use Rattle.sw_eval_literals.specs.Maps.{second_key}

-- what holds of all of a list holds of one in it
of_one : {X : Type 0} (P : X → Type 0) (xs : List X) (x : X) (ys : List X) → AllByRecursion P (xs ++ x ∷ ys) → P x
of_one P [] x ys all = all.0
of_one P (z ∷ xs) x ys all = of_one P xs x ys all.1

absent : (seen : List (List ℕ)) (key : List ℕ) (keys : List (List ℕ)) → IsDistinct bytes_eq (seen ++ key ∷ keys) → list_any (bytes_eq key) seen ≡ false
unfolding IsDistinct
absent [] key keys d = refl
absent (one ∷ seen) key keys d =
    let apart : bytes_eq key one ≡ false = nat_list_eq_equiv.symm key one ∙ of_one (λ other. bytes_eq one other ≡ false) seen key keys d.0 in
    rw (apart, absent seen key keys d.1) refl

none_from : (seen : List (List ℕ)) (pairs : List (Plain × Plain)) (number : ℕ) → IsDistinct bytes_eq (seen ++ map key_canon pairs) → second_key seen pairs number ≡ None
none_from seen [] number d = refl
none_from seen (pair ∷ pairs) number d =
    rw (absent seen (key_canon pair) (map key_canon pairs) d)
    (none_from (seen ++ key_canon pair ∷ []) pairs (number + 1) (rw (append_assoc seen (key_canon pair ∷ []) (map key_canon pairs)) d))

again_from : (seen : List (List ℕ)) (pairs : List (Plain × Plain)) (place number : ℕ) (pair : Plain × Plain)
    → IsDistinct bytes_eq (seen ++ map key_canon (take place pairs)) → slice_get pairs place ≡ Some pair
    → list_any (bytes_eq (key_canon pair)) (seen ++ map key_canon (take place pairs)) ≡ true
    → second_key seen pairs number ≡ Some (number + place)
again_from seen [] place number pair d there again = let no : ⊥ = cc in absurd no
again_from seen (first ∷ pairs) zero number pair d there again =
    let e : first ≡ pair = cc in
    let k : list_any (bytes_eq (key_canon pair)) seen ≡ true = rw (append-nil seen) at again in
    rw (e, k, add-zero number) refl
again_from seen (first ∷ pairs) (suc place) number pair d there again =
    rw (absent seen (key_canon first) (map key_canon (take place pairs)) d)
    (again_from (seen ++ key_canon first ∷ []) pairs place (number + 1) pair
    (rw (append_assoc seen (key_canon first ∷ []) (map key_canon (take place pairs))) d) there
    (rw (append_assoc seen (key_canon first ∷ []) (map key_canon (take place pairs))) again)
    ∙ ap Some (omega arith))

pub all_distinct : (pairs : List (Plain × Plain)) → AreDistinct pairs → second_key [] pairs 0 ≡ None
all_distinct pairs d = none_from [] pairs 0 d

pub one_again : (pairs : List (Plain × Plain)) (place : ℕ) → IsDuplicate pairs place → second_key [] pairs 0 ≡ Some place
one_again pairs place d = again_from [] pairs place 0 d.pair d.before d.there d.again ∙ ap Some (omega arith)
