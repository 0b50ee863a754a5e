-- What begins a grammar begins it at each token before.
use Rattle.std.proofs.Common.{◌≡◌, ℕ, suc, ◌≤◌, ◌<◌, true, ◌⊎◌, List, [], ◌++◌, inl, inr, arith}
use Rattle.sw_parse_grammar.specs.Grammar.{Grammar, keep, skip, empty, ahead, seq, alt, many, sep, Item, group, unless, build, member, Row, done, then, Text, DerivesIn, BeginsIn}
use Rattle.sw_parse_grammar.proofs.Laws.{derives_begins}

at_or_behind : (p k : ℕ) → (p ≤ k) ⊎ (k < p)
at_or_behind p k = grind arith

same_or_behind : (i p : ℕ) → i ≤ p → (p ≡ i) ⊎ (suc i ≤ p)
same_or_behind i p l = grind arith

module _ {V F : Type 0} (t : Text V) (inner : F → ℕ → ℕ → List V → Type 0) (begun : F → ℕ → ℕ → Type 0)
    (inner_begins : (f : F) (i j : ℕ) (u : List V) → inner f i j u → begun f i j)
    (inner_prefix : (f : F) (i p m : ℕ) → i ≤ p → p ≤ m → begun f i m → begun f i p)
  where
    one_token : (s : List ℕ) (i p m : ℕ) → i ≤ p → p ≤ m → (m ≡ i) ⊎ ((member (t.kind i) s ≡ true) × (m ≡ suc i)) → (p ≡ i) ⊎ ((member (t.kind i) s ≡ true) × (p ≡ suc i))
    one_token s i p m l1 l2 (inl e) = inl (omega arith)
    one_token s i p m l1 l2 (inr e) = elim (same_or_behind i p l1) [ inl x ↦ inl x | inr x ↦ inr (e.0, omega (arith, e.1)) ]

    row_prefix : (g : Grammar V F) → ((i p m : ℕ) → i ≤ p → p ≤ m → BeginsIn t inner begun g i m → BeginsIn t inner begun g i p)
        → {i k : ℕ} {u : List V} (p : ℕ) → Row (DerivesIn t inner g) i k u → i ≤ p → p ≤ k → BeginsIn t inner begun (many g) i p
    row_prefix g each p (done {i}) l1 l2 = (i, [], done, inl (omega arith))
    row_prefix g each p (then {i} {k} {j} {u} {v} d r) l1 l2 =
        elim (at_or_behind p k) [
          | inl x ↦ (i, [], done, inr (each i p k l1 x (derives_begins t inner begun inner_begins g i k u d)))
          | inr x ↦ (let y = row_prefix g each p r (omega arith) l2 in (y.0, u ++ y.1, then d y.2, y.3))
        ]

    sep_prefix : (s : List ℕ) (g : Grammar V F) → ((i p m : ℕ) → i ≤ p → p ≤ m → BeginsIn t inner begun g i m → BeginsIn t inner begun g i p)
        → {i k : ℕ} {u : List V} (p : ℕ) → Row (Item t s (DerivesIn t inner g)) i k u → i ≤ p → p ≤ k → BeginsIn t inner begun (sep s g) i p
    sep_prefix s g each p (done {i}) l1 l2 = (i, [], done, inl (omega arith))
    sep_prefix s g each p (then {i} {k} {j} {u} {v} d r) l1 l2 =
        elim (at_or_behind p k) [
          | inl x ↦ elim (same_or_behind i p l1) [
            | inl e ↦ (i, [], done, inl e)
            | inr y ↦ (i, [], done, inr (d.0, each (suc i) p k y x (derives_begins t inner begun inner_begins g (suc i) k u d.1)))
          ]
          | inr x ↦ (let y = sep_prefix s g each p r (omega arith) l2 in (y.0, u ++ y.1, then d y.2, y.3))
        ]

    pub begins_prefix : (g : Grammar V F) (i p m : ℕ) → i ≤ p → p ≤ m → BeginsIn t inner begun g i m → BeginsIn t inner begun g i p
    begins_prefix (keep s) i p m l1 l2 x = one_token s i p m l1 l2 x
    begins_prefix (skip s) i p m l1 l2 x = one_token s i p m l1 l2 x
    begins_prefix empty i p m l1 l2 x = omega arith
    begins_prefix (ahead s) i p m l1 l2 x = omega arith
    begins_prefix (seq a b) i p m l1 l2 (inl x) = inl (begins_prefix a i p m l1 l2 x)
    begins_prefix (seq a b) i p m l1 l2 (inr (k, u, d, x)) =
        elim (at_or_behind p k) [
          | inl y ↦ inl (begins_prefix a i p k l1 y (derives_begins t inner begun inner_begins a i k u d))
          | inr y ↦ inr (k, u, d, begins_prefix b k p m (omega arith) l2 x)
        ]
    begins_prefix (alt a b) i p m l1 l2 (inl x) = inl (begins_prefix a i p m l1 l2 x)
    begins_prefix (alt a b) i p m l1 l2 (inr x) = inr (begins_prefix b i p m l1 l2 x)
    begins_prefix (many g) i p m l1 l2 (k, u, r, x) =
        elim (at_or_behind p k) [
          | inl y ↦ row_prefix g (begins_prefix g) p r l1 y
          | inr y ↦ elim x [ inl e ↦ absurd (omega arith) | inr z ↦ (k, u, r, inr (begins_prefix g k p m (omega arith) l2 z)) ]
        ]
    begins_prefix (sep s g) i p m l1 l2 (k, u, r, x) =
        elim (at_or_behind p k) [
          | inl y ↦ sep_prefix s g (begins_prefix g) p r l1 y
          | inr y ↦ elim x [ inl e ↦ absurd (omega arith) | inr z ↦ (k, u, r, inr (z.0, begins_prefix g (suc k) p m (omega arith) l2 z.1)) ]
        ]
    begins_prefix (group o f c) i p m l1 l2 (inl e) = inl (omega arith)
    begins_prefix (group o f c) i p m l1 l2 (inr (q, inl x)) =
        elim (same_or_behind i p l1) [ inl e ↦ inl e | inr y ↦ inr (q, inl (inner_prefix f (suc i) p m y l2 x)) ]
    begins_prefix (group o f c) i p m l1 l2 (inr (q, inr (k, u, d, qc, e))) =
        elim (same_or_behind i p l1) [
          | inl e2 ↦ inl e2
          | inr y ↦ elim (at_or_behind p k) [
            | inl z ↦ inr (q, inl (inner_prefix f (suc i) p k y z (inner_begins f (suc i) k u d)))
            | inr z ↦ inr (q, inr (k, u, d, qc, omega (arith, e)))
          ]
        ]
    begins_prefix (unless s g) i p m l1 l2 (inl e) = inl (omega arith)
    begins_prefix (unless s g) i p m l1 l2 (inr x) = inr (x.0, begins_prefix g i p m l1 l2 x.1)
    begins_prefix (build h g) i p m l1 l2 x = begins_prefix g i p m l1 l2 x
