-- One turn of a loop that makes a list.
use Rattle.std.proofs.Common.{◌≡◌, ℕ, zero, suc, ◌+◌, ◌≤◌, ◌<◌, max, Bool, true, false, ◌||◌, List, [], ◌∷◌, ◌++◌, length, map, drop, get_or, refl, sym, ◌∙◌, ap, append_assoc, arith}
use Rattle.std.specs.Prelude.{min}
use Rattle.std.specs.List.{flat_map, list_any}
use Rattle.std.proofs.lemmas.List.{drop_more}
use Rattle.std.proofs.lemmas.List.Concat.{flat_map-cons}
use Rattle.sw_selector.specs.declared.selector.Part.{Part}
use Rattle.sw_selector.specs.Depth.{greatest_by}
use Rattle.sw_selector.specs.Nesting.{is_sign_part, joined_behind, complex_joined}

next : {A : Type 0} (xs : List A) (i : ℕ) (x : A) → i < length xs → x ≡ get_or xs i x → drop i xs ≡ x ∷ drop (i + 1) xs
next {A} xs i x lt is = drop_more xs i x lt ∙ ap (λ (y : A). y ∷ drop (i + 1) xs) (sym is)

module _ {A B : Type 0} where
  -- one more made of one
  pub map_turn : (f : A → B) (out : List B) (xs : List A) (i : ℕ) (x : A) → i < length xs → x ≡ get_or xs i x
      → (out ++ f x ∷ []) ++ map f (drop (i + 1) xs) ≡ out ++ map f (drop i xs)
  map_turn f out xs i x lt is =
      append_assoc out (f x ∷ []) (map f (drop (i + 1) xs)) ∙ ap (λ (ys : List A). out ++ map f ys) (sym (next xs i x lt is))

  -- some more made of one
  pub flat_turn : (f : A → List B) (out : List B) (xs : List A) (i : ℕ) (x : A) → i < length xs → x ≡ get_or xs i x
      → (out ++ f x) ++ flat_map f (drop (i + 1) xs) ≡ out ++ flat_map f (drop i xs)
  flat_turn f out xs i x lt is =
      append_assoc out (f x) (flat_map f (drop (i + 1) xs))
      ∙ ap (λ (ys : List B). out ++ ys) (sym (flat_map-cons f x (drop (i + 1) xs)))
      ∙ ap (λ (ys : List A). out ++ flat_map f ys) (sym (next xs i x lt is))

or_assoc : (a b c : Bool) → ((a || b) || c) ≡ (a || (b || c))
or_assoc true b c = refl
or_assoc false b c = refl

module _ {A : Type 0} where
  -- one more is looked at
  pub any_turn : (f : A → Bool) (found : Bool) (xs : List A) (i : ℕ) (x : A) → i < length xs → x ≡ get_or xs i x
      → ((found || f x) || list_any f (drop (i + 1) xs)) ≡ (found || list_any f (drop i xs))
  any_turn f found xs i x lt is =
      or_assoc found (f x) (list_any f (drop (i + 1) xs)) ∙ ap (λ (ys : List A). found || list_any f ys) (sym (next xs i x lt is))

  -- one more is measured
  pub greatest_turn : (f : A → ℕ) (most : ℕ) (xs : List A) (i : ℕ) (x : A) (deepest seen : ℕ) → i < length xs → x ≡ get_or xs i x → seen ≡ min most (f x)
      → max (max deepest seen) (min most (greatest_by f (drop (i + 1) xs))) ≡ max deepest (min most (greatest_by f (drop i xs)))
  greatest_turn f most xs i x deepest seen lt is e =
      let n = ap (greatest_by f) (next xs i x lt is) in
      least most (greatest_by f (drop (i + 1) xs)) (f x) (greatest_by f (drop i xs)) deepest seen n e
    where
      least : (most rest here whole deepest seen : ℕ) → whole ≡ max here rest → seen ≡ min most here → max (max deepest seen) (min most rest) ≡ max deepest (min most whole)
      least most rest here whole deepest seen n e = omega (arith, n, e)

-- one more part is looked at
pub joined_turn : (found before : Bool) (parts : List Part) (i : ℕ) (part : Part) → i < length parts → part ≡ get_or parts i part
    → ((found || joined_behind before part) || complex_joined (is_sign_part part) (drop (i + 1) parts)) ≡ (found || complex_joined before (drop i parts))
joined_turn found before parts i part lt is =
    or_assoc found (joined_behind before part) (complex_joined (is_sign_part part) (drop (i + 1) parts))
    ∙ ap (λ (ys : List Part). found || complex_joined before ys) (sym (next parts i part lt is))

-- none is greater than the greatest
pub part_le : {A : Type 0} (f : A → ℕ) (xs : List A) (i : ℕ) (x : A) → i < length xs → x ≡ get_or xs i x → f x ≤ greatest_by f xs
part_le {A} f xs i x lt is = go xs i lt is
  where
    go : (ys : List A) (k : ℕ) → k < length ys → x ≡ get_or ys k x → f x ≤ greatest_by f ys
    go [] k l e = absurd (omega arith)
    go (y ∷ ys) zero l e = let same = ap f e in omega (arith, same)
    go (y ∷ ys) (suc k) l e = let h = go ys k (omega arith) e in omega (arith, h)
