-- The last of a list.
use Rattle.std.proofs.Common.{◌≡◌, ℕ, suc, ◌-◌, List, [], ◌∷◌, ◌++◌, length, take, slice_get, None, Some, refl, ◌∙◌, ap, length-append, arith}
use Rattle.std.proofs.Math.Seq.{take-append_seam}

pub one_less : {A : Type 0} (xs : List A) (x : A) → length (xs ++ x ∷ []) - 1 ≡ length xs
one_less xs x = let len = length-append xs (x ∷ []) in omega (arith, len)

pub take_front : {A : Type 0} (xs : List A) (x : A) → take (length (xs ++ x ∷ []) - 1) (xs ++ x ∷ []) ≡ xs
take_front xs x = ap (λ (n : ℕ). take n (xs ++ x ∷ [])) (one_less xs x) ∙ take-append_seam xs (x ∷ [])

at_seam : {A : Type 0} (xs : List A) (x : A) → slice_get (xs ++ x ∷ []) (length xs) ≡ Some x
at_seam [] x = refl
at_seam (y ∷ ys) x = at_seam ys x

pub last_at : {A : Type 0} (xs : List A) (x : A) → slice_get (xs ++ x ∷ []) (length (xs ++ x ∷ []) - 1) ≡ Some x
last_at xs x = ap (slice_get (xs ++ x ∷ [])) (one_less xs x) ∙ at_seam xs x

-- a list that has no last one is empty
some_last : {A : Type 0} (x : A) (xs : List A) → (y : A) × (slice_get (x ∷ xs) (length xs) ≡ Some y)
some_last x [] = (x, refl)
some_last x (z ∷ zs) = some_last z zs

pub none_last : {A : Type 0} (xs : List A) → None ≡ slice_get xs (length xs - 1) → xs ≡ []
none_last [] none = refl
none_last (x ∷ xs) none =
    let last = some_last x xs in
    let less : suc (length xs) - 1 ≡ length xs = omega arith in
    absurd (apart (none ∙ ap (slice_get (x ∷ xs)) less ∙ last.1))
  where
    apart : {A : Type 0} {y : A} → None ≡ Some y → ⊥
    apart e = cc

pub same_last : {A : Type 0} (xs rest : List A) (x y : A) → xs ≡ rest ++ y ∷ [] → Some x ≡ slice_get xs (length xs - 1) → x ≡ y
same_last {A} xs rest x y are last =
    let e : Some x ≡ Some y = last ∙ ap (λ (l : List A). slice_get l (length l - 1)) are ∙ last_at rest y in
    cc e
