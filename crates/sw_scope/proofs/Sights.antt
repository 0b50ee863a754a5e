-- What is seen of frames that stand on one another.
use Rattle.std.proofs.Common.{◌≡◌, ℕ, suc, ◌==◌, nat_le, Bool, true, false, cond, List, [], ◌∷◌, ◌++◌, length, Option, Some, None, refl, sym, ◌∙◌, ap, arith}
use Rattle.std.proofs.lemmas.Bool.Decides.{nat_tests}
use Rattle.sw_scope.specs.declared.mark.FrameKind.{FrameKind}
use Rattle.sw_scope.specs.Frames.{Variable, place, set_in, declare_in}
use Rattle.sw_scope.specs.Stack.{Standing, seen_from, seen, unseen_from, unseen, with_vars, set_here, set_from, set_on, declare_on, number_in, put_on, popped}

length_by : (b : Bool) (p : Option ℕ) (s : Standing) (ss after : List Standing) (lower : ℕ → List Standing) (v : Variable) → length (lower s.below) ≡ length ss → length after ≡ length ss
    → length (cond b (set_here p s ss lower v) (s ∷ after)) ≡ suc (length ss)
length_by true (Some i) s ss after lower v below past = refl
length_by true None s ss after lower v below past = ap suc below
length_by false p s ss after lower v below past = ap suc past

length-set_from : (n : ℕ) (ss : List Standing) (v : Variable) → length (set_from n ss v) ≡ length ss
length-set_from n [] v = refl
length-set_from n (s ∷ ss) v =
    length_by (n == suc (length ss)) (place s.frame.vars v.0) s ss (set_from n ss v) (λ m. set_from m ss v) v (length-set_from s.below ss v) (length-set_from n ss v)

-- the first frame that is seen takes the value, or hands it down; one that isn't seen stays
module _ (n : ℕ) (s : Standing) (ss : List Standing) (v : Variable) where
  seen_by : (b : Bool) → (n == suc (length ss)) ≡ b → (p : Option ℕ) → place s.frame.vars v.0 ≡ p → seen_from s.below (set_from s.below ss v) ≡ set_in (seen_from s.below ss) v
      → seen_from n (set_from n ss v) ≡ set_in (seen_from n ss) v → seen_from n (set_from n (s ∷ ss) v) ≡ set_in (seen_from n (s ∷ ss)) v
  seen_by true e (Some i) q below past = rw (e, q, e) refl
  seen_by true e None q below past = rw (e, q, length-set_from s.below ss v, e) (ap (λ fs. s.frame ∷ fs) below)
  seen_by false e p q below past = rw (e, length-set_from n ss v, e) past

  unseen_by : (b : Bool) → (n == suc (length ss)) ≡ b → (p : Option ℕ) → place s.frame.vars v.0 ≡ p → unseen_from s.below (set_from s.below ss v) ≡ unseen_from s.below ss
      → unseen_from n (set_from n ss v) ≡ unseen_from n ss → unseen_from n (set_from n (s ∷ ss) v) ≡ unseen_from n (s ∷ ss)
  unseen_by true e (Some i) q below past = rw (e, q, e) refl
  unseen_by true e None q below past = rw (e, q, length-set_from s.below ss v, e) below
  unseen_by false e p q below past = rw (e, length-set_from n ss v, e) (ap (λ xs. s ∷ xs) past)

seen_set : (n : ℕ) (ss : List Standing) (v : Variable) → seen_from n (set_from n ss v) ≡ set_in (seen_from n ss) v
seen_set n [] v = refl
seen_set n (s ∷ ss) v = seen_by n s ss v (n == suc (length ss)) refl (place s.frame.vars v.0) refl (seen_set s.below ss v) (seen_set n ss v)

unseen_set : (n : ℕ) (ss : List Standing) (v : Variable) → unseen_from n (set_from n ss v) ≡ unseen_from n ss
unseen_set n [] v = refl
unseen_set n (s ∷ ss) v = unseen_by n s ss v (n == suc (length ss)) refl (place s.frame.vars v.0) refl (unseen_set s.below ss v) (unseen_set n ss v)

-- ---- from the innermost frame

pub seen-set_on : (ss : List Standing) (v : Variable) → seen (set_on ss v) ≡ set_in (seen ss) v
unfolding seen set_on
seen-set_on ss v = ap (λ n. seen_from n (set_from (length ss) ss v)) (length-set_from (length ss) ss v) ∙ seen_set (length ss) ss v

pub unseen-set_on : (ss : List Standing) (v : Variable) → unseen (set_on ss v) ≡ unseen ss
unfolding unseen set_on
unseen-set_on ss v = ap (λ n. unseen_from n (set_from (length ss) ss v)) (length-set_from (length ss) ss v) ∙ unseen_set (length ss) ss v

innermost : (s : Standing) (ss : List Standing) → seen_from (suc (length ss)) (s ∷ ss) ≡ s.frame ∷ seen_from s.below ss
innermost s ss =
    let same : (suc (length ss) == suc (length ss)) ≡ true = grind (arith, nat_tests) in
    ap (λ b. cond b (s.frame ∷ seen_from s.below ss) (seen_from (suc (length ss)) ss)) same

pub seen-declare_on : (ss : List Standing) (v : Variable) → seen (declare_on ss v) ≡ declare_in (seen ss) v
unfolding seen
seen-declare_on [] v = refl
seen-declare_on (s ∷ ss) v = innermost (with_vars s (s.frame.vars ++ v ∷ [])) ss ∙ sym (ap (λ fs. declare_in fs v) (innermost s ss))

pub seen-put_on : (ss : List Standing) (n : ℕ) (kind : FrameKind) → seen (put_on ss n kind) ≡ record { kind = kind; vars = [] } ∷ seen_from (number_in ss n) ss
unfolding seen put_on
seen-put_on ss n kind = innermost (record { frame = record { kind = kind; vars = [] }; below = number_in ss n }) ss

pub seen-push : (ss : List Standing) (kind : FrameKind) → seen (put_on ss (length ss) kind) ≡ record { kind = kind; vars = [] } ∷ seen ss
unfolding seen put_on
seen-push ss kind =
    let all : nat_le (length ss) (length ss) ≡ true = grind (arith, nat_tests) in
    innermost (record { frame = record { kind = kind; vars = [] }; below = number_in ss (length ss) }) ss
    ∙ ap (λ b. record { kind = kind; vars = [] } ∷ seen_from (cond b (length ss) (length ss)) ss) all

pub popped-put_on : (ss : List Standing) (n : ℕ) (kind : FrameKind) → popped (put_on ss n kind) ≡ ss
unfolding put_on
popped-put_on ss n kind = refl
