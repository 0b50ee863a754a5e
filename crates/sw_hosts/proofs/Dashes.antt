-- A stored name, compared byte by byte.
use Rattle.std.proofs.Common.{◌≡◌, ◌≢◌, ℕ, ◌+◌, ◌<◌, Bool, true, false, List, [], ◌∷◌, length, drop, get_or, refl, sym, ◌∙◌, ap, arith}
use Rattle.std.specs.Prelude.{bytes_eq, ◌&&◌, nat_eq, map}
use Rattle.std.proofs.lemmas.List.{drop_more, drop_all, length-map}
use Rattle.std.proofs.lemmas.Bool.{eqb-true, eq-eqb}
use Rattle.std.proofs.lemmas.Slice.Eq.{bytes_eq-Decides}
use Rattle.sw_text.specs.Names.{dash, dashed}

parts : (a b : List ℕ) (i : ℕ) → i < length a → i < length b
    → bytes_eq (drop i a) (dashed (drop i b))
    ≡ (nat_eq (get_or a i 0) (dash (get_or b i 0)) && bytes_eq (drop (i + 1) a) (dashed (drop (i + 1) b)))
parts a b i l m =
    ap (λ (x : List ℕ). bytes_eq x (dashed (drop i b))) (drop_more a i 0 l)
    ∙ ap (λ (y : List ℕ). bytes_eq (get_or a i 0 ∷ drop (i + 1) a) (dashed y)) (drop_more b i 0 m)

pub more : (a b : List ℕ) (i : ℕ) (whole : Bool) → i < length a → i < length b → get_or a i 0 ≡ dash (get_or b i 0)
    → bytes_eq (drop i a) (dashed (drop i b)) ≡ whole → bytes_eq (drop (i + 1) a) (dashed (drop (i + 1) b)) ≡ whole
more a b i whole l m e is =
    sym (ap (λ (t : Bool). t && bytes_eq (drop (i + 1) a) (dashed (drop (i + 1) b))) (eq-eqb (get_or a i 0) (dash (get_or b i 0)) e))
    ∙ sym (parts a b i l m) ∙ is

unlike : (x y : ℕ) → x ≢ y → (t : Bool) → nat_eq x y ≡ t → t ≡ false
unlike x y n false e = refl
unlike x y n true e = absurd (n (eqb-true x y e))

pub differ : (a b : List ℕ) (i : ℕ) (whole : Bool) → i < length a → i < length b → get_or a i 0 ≢ dash (get_or b i 0)
    → bytes_eq (drop i a) (dashed (drop i b)) ≡ whole → false ≡ whole
differ a b i whole l m n is =
    sym (ap (λ (t : Bool). t && bytes_eq (drop (i + 1) a) (dashed (drop (i + 1) b))) (unlike (get_or a i 0) (dash (get_or b i 0)) n _ refl))
    ∙ sym (parts a b i l m) ∙ is

pub through : (a b : List ℕ) (i : ℕ) (whole : Bool) → i ≡ length a → length a ≡ length b
    → bytes_eq (drop i a) (dashed (drop i b)) ≡ whole → true ≡ whole
through a b i whole l m is =
    sym (ap (λ (x : List ℕ). bytes_eq x (dashed (drop i b))) (drop_all i a (omega arith)) ∙ ap (λ (y : List ℕ). bytes_eq [] (dashed y)) (drop_all i b (omega arith)))
    ∙ is

apart : (a b : List ℕ) → length a ≢ length b → (t : Bool) → bytes_eq a (dashed b) ≡ t → false ≡ t
apart a b n false e = refl
apart a b n true e = absurd (n (ap (λ (xs : List ℕ). length xs) ((bytes_eq-Decides a (dashed b)).0 e) ∙ length-map b dash))

pub other_length : (a b : List ℕ) → length a ≢ length b → false ≡ bytes_eq a (dashed b)
other_length a b n = apart a b n _ refl
