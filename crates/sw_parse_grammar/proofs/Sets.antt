-- Sets of kinds.
use Rattle.std.proofs.Common.{◌≡◌, ℕ, Bool, true, false, not, ◌&&◌, ◌||◌, ◌⊎◌, List, [], ◌∷◌, ◌++◌, eqb, inl, inr, refl, sym, subst, arith}
use Rattle.sw_parse_grammar.specs.Grammar.{member, disjoint, when, is_none, without, Kinds, All, These, within, only, allows, both, either}

pub or_left : (a b : Bool) → a ≡ true → (a || b) ≡ true
or_left true b e = refl
or_left false b e = cc

pub or_right : (a b : Bool) → b ≡ true → (a || b) ≡ true
or_right true b e = refl
or_right false b e = e

pub or_cases : (a b : Bool) → (a || b) ≡ true → (a ≡ true) ⊎ (b ≡ true)
or_cases true b e = inl refl
or_cases false b e = inr e

pub and_both : (a b : Bool) → (a && b) ≡ true → (a ≡ true) × (b ≡ true)
and_both true b e = (refl, e)
and_both false b e = absurd (cc)

pub member_left : (k : ℕ) (xs ys : List ℕ) → member k xs ≡ true → member k (xs ++ ys) ≡ true
member_left k [] ys e = absurd (cc)
member_left k (x ∷ xs) ys e =
    elim (or_cases (eqb k x) (member k xs) e) [
      | inl p ↦ or_left (eqb k x) (member k (xs ++ ys)) p
      | inr p ↦ or_right (eqb k x) (member k (xs ++ ys)) (member_left k xs ys p)
    ]

pub member_right : (k : ℕ) (xs ys : List ℕ) → member k ys ≡ true → member k (xs ++ ys) ≡ true
member_right k [] ys e = e
member_right k (x ∷ xs) ys e = or_right (eqb k x) (member k (xs ++ ys)) (member_right k xs ys e)

pub member_when : (k : ℕ) (b : Bool) (xs : List ℕ) → b ≡ true → member k xs ≡ true → member k (when b xs) ≡ true
member_when k true xs e h = h
member_when k false xs e h = absurd (cc)

not_true : (b : Bool) → not b ≡ true → b ≡ true → ⊥
not_true true e h = cc
not_true false e h = cc

pub apart : (k : ℕ) (xs ys : List ℕ) → disjoint xs ys ≡ true → member k xs ≡ true → member k ys ≡ true → ⊥
apart k [] ys d p q = cc
apart k (x ∷ xs) ys d p q =
    let both = and_both (not (member x ys)) (disjoint xs ys) d in
    elim (or_cases (eqb k x) (member k xs) p) [
      | inl e ↦ not_true (member x ys) both.0 (subst (λ z. member z ys ≡ true) (grind (arith, e)) q)
      | inr e ↦ apart k xs ys both.1 e q
    ]

pub not_null : (b : Bool) → not b ≡ true → b ≡ true → ⊥
not_null = not_true

pub true_or_false : (b : Bool) → (b ≡ true) ⊎ (b ≡ false)
true_or_false true = inl refl
true_or_false false = inr refl

pub member_cases : (k : ℕ) (xs ys : List ℕ) → member k (xs ++ ys) ≡ true → (member k xs ≡ true) ⊎ (member k ys ≡ true)
member_cases k [] ys e = inr e
member_cases k (x ∷ xs) ys e =
    elim (or_cases (eqb k x) (member k (xs ++ ys)) e) [
      | inl p ↦ inl (or_left (eqb k x) (member k xs) p)
      | inr p ↦ elim (member_cases k xs ys p) [ inl q ↦ inl (or_right (eqb k x) (member k xs) q) | inr q ↦ inr q ]
    ]

pub when_both : (k : ℕ) (b : Bool) (xs : List ℕ) → member k (when b xs) ≡ true → (b ≡ true) × (member k xs ≡ true)
when_both k true xs e = (refl, e)
when_both k false xs e = absurd (cc)

pub not_false : (b : Bool) → not b ≡ true → b ≡ false
not_false true e = absurd (cc)
not_false false e = refl

pub none_of : (k : ℕ) (xs : List ℕ) → is_none xs ≡ true → member k xs ≡ true → ⊥
none_of k [] e h = cc
none_of k (x ∷ xs) e h = cc

pub at_true : {A : Type 0} (b : Bool) (x y : A) → b ≡ true → elim b as (λ _. A) [ true ↦ x | false ↦ y ] ≡ x
at_true true x y e = refl
at_true false x y e = absurd (cc)

pub at_false : {A : Type 0} (b : Bool) (x y : A) → b ≡ false → elim b as (λ _. A) [ true ↦ x | false ↦ y ] ≡ y
at_false true x y e = absurd (cc)
at_false false x y e = refl

pub member_without : (k : ℕ) (s xs : List ℕ) → member k s ≡ false → member k xs ≡ true → member k (without s xs) ≡ true
member_without k s [] e h = absurd (cc)
member_without k s (x ∷ xs) e h = go (λ p. member_without k s xs e p) (member x s) refl (or_cases (eqb k x) (member k xs) h)
  where
    same : eqb k x ≡ true → k ≡ x
    same p = grind (arith, p)

    go : (member k xs ≡ true → member k (without s xs) ≡ true) → (b : Bool) → member x s ≡ b → (eqb k x ≡ true) ⊎ (member k xs ≡ true) → member k (elim b as (λ _. List ℕ) [ true ↦ without s xs | false ↦ x ∷ without s xs ]) ≡ true
    go later true m (inl p) = let q = subst (λ (z : ℕ). member z s ≡ false) (same p) e in absurd (cc)
    go later true m (inr p) = later p
    go later false m (inl p) = or_left (eqb k x) (member k (without s xs)) p
    go later false m (inr p) = or_right (eqb k x) (member k (without s xs)) (later p)

pub without_both : (k : ℕ) (s xs : List ℕ) → member k (without s xs) ≡ true → (member k s ≡ false) × (member k xs ≡ true)
without_both k s [] h = absurd (cc)
without_both k s (x ∷ xs) h = go (λ p. without_both k s xs p) (member x s) refl h
  where
    same : eqb k x ≡ true → k ≡ x
    same p = grind (arith, p)

    go : (member k (without s xs) ≡ true → (member k s ≡ false) × (member k xs ≡ true)) → (b : Bool) → member x s ≡ b
        → member k (elim b as (λ _. List ℕ) [ true ↦ without s xs | false ↦ x ∷ without s xs ]) ≡ true → (member k s ≡ false) × (member k (x ∷ xs) ≡ true)
    go later true m h = let r = later h in (r.0, or_right (eqb k x) (member k xs) r.1)
    go later false m h = elim (or_cases (eqb k x) (member k (without s xs)) h) [
      | inl p ↦ (subst (λ (z : ℕ). member z s ≡ false) (sym (same p)) m, or_left (eqb k x) (member k xs) p)
      | inr p ↦ (let r = later p in (r.0, or_right (eqb k x) (member k xs) r.1))
    ]

-- what is left of a set
pub member_of_without : (k : ℕ) (s xs : List ℕ) → member k (without s xs) ≡ (not (member k s) && member k xs)
member_of_without k s xs = go (true_or_false (member k s)) (true_or_false (member k xs)) (true_or_false (member k (without s xs)))
  where
    go : (member k s ≡ true) ⊎ (member k s ≡ false) → (member k xs ≡ true) ⊎ (member k xs ≡ false) → (member k (without s xs) ≡ true) ⊎ (member k (without s xs) ≡ false)
        → member k (without s xs) ≡ (not (member k s) && member k xs)
    go (inl a) b (inl c) = let x = (without_both k s xs c).0 in absurd (cc)
    go (inl a) b (inr c) = rw (a, c) refl
    go (inr a) (inl b) c = rw (a, b, member_without k s xs a b) refl
    go (inr a) (inr b) (inl c) = let x = (without_both k s xs c).1 in absurd (cc)
    go (inr a) (inr b) (inr c) = rw (a, b, c) refl

pub member_append : (k : ℕ) (xs ys : List ℕ) → member k (xs ++ ys) ≡ (member k xs || member k ys)
member_append k [] ys = refl
member_append k (x ∷ xs) ys = go (eqb k x) (member_append k xs ys)
  where
    go : (b : Bool) → member k (xs ++ ys) ≡ (member k xs || member k ys) → (b || member k (xs ++ ys)) ≡ ((b || member k xs) || member k ys)
    go true e = refl
    go false e = e

pub member_within : (k : ℕ) (s xs : List ℕ) → member k s ≡ true → member k xs ≡ true → member k (within s xs) ≡ true
member_within k s [] e h = absurd (cc)
member_within k s (x ∷ xs) e h = go (λ p. member_within k s xs e p) (member x s) refl (or_cases (eqb k x) (member k xs) h)
  where
    same : eqb k x ≡ true → k ≡ x
    same p = grind (arith, p)

    go : (member k xs ≡ true → member k (within s xs) ≡ true) → (b : Bool) → member x s ≡ b → (eqb k x ≡ true) ⊎ (member k xs ≡ true) → member k (elim b as (λ _. List ℕ) [ true ↦ x ∷ within s xs | false ↦ within s xs ]) ≡ true
    go later false m (inl p) = let q = subst (λ (z : ℕ). member z s ≡ true) (same p) e in absurd (cc)
    go later false m (inr p) = later p
    go later true m (inl p) = or_left (eqb k x) (member k (within s xs)) p
    go later true m (inr p) = or_right (eqb k x) (member k (within s xs)) (later p)

pub member_only : (k : ℕ) (K : Kinds) (xs : List ℕ) → allows k K ≡ true → member k xs ≡ true → member k (only K xs) ≡ true
member_only k All xs e h = h
member_only k (These s) xs e h = member_within k s xs e h

pub allows_both : (k : ℕ) (x y : Kinds) → allows k x ≡ true → allows k y ≡ true → allows k (both x y) ≡ true
allows_both k All y e h = h
allows_both k (These s) All e h = e
allows_both k (These s) (These t) e h = member_within k s t e h

pub allows_left : (k : ℕ) (x y : Kinds) → allows k x ≡ true → allows k (either x y) ≡ true
allows_left k All y e = refl
allows_left k (These s) All e = refl
allows_left k (These s) (These t) e = member_left k s t e

pub allows_right : (k : ℕ) (x y : Kinds) → allows k y ≡ true → allows k (either x y) ≡ true
allows_right k All y e = refl
allows_right k (These s) All e = refl
allows_right k (These s) (These t) e = member_right k s t e

pub only_none : (K : Kinds) → only K [] ≡ []
only_none All = refl
only_none (These s) = refl
