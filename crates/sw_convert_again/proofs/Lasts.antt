-- What a text of a grammar ends with.
use Rattle.std.proofs.Common.{◌≡◌, ℕ, zero, suc, ◌-◌, ◌≤◌, ◌<◌, true, ◌⊎◌, List, ◌++◌, inl, inr, refl, sym, subst, arith}
use Rattle.sw_parse_grammar.specs.Grammar.{Grammar, keep, skip, empty, ahead, seq, alt, many, sep, Item, group, unless, build, member, nullable, when, Row, done, then, Text, DerivesIn, Derives}
use Rattle.sw_parse_grammar.proofs.Sets.{or_left, or_right, member_left, member_right, member_when}
use Rattle.sw_convert_again.specs.Lasts.{last}

apart : (a b : ℕ) → a ≤ b → (a < b) ⊎ (a ≡ b)
apart a b l = grind arith

module _ {V F : Type 0} (t : Text V) (inner : F → ℕ → ℕ → List V → Type 0)
    (inner_le : (f : F) (i j : ℕ) (u : List V) → inner f i j u → i ≤ j) where
  row_le : (g : Grammar V F) → ((i j : ℕ) (w : List V) → DerivesIn t inner g i j w → i ≤ j) → {i j : ℕ} {w : List V}
      → Row (DerivesIn t inner g) i j w → i ≤ j
  row_le g each done = omega arith
  row_le g each (then {i} {k} {j} {u} {v} d r) = omega (arith, each i k u d, row_le g each r)

  sep_le : (s : List ℕ) (g : Grammar V F) → ((i j : ℕ) (w : List V) → DerivesIn t inner g i j w → i ≤ j)
      → {i j : ℕ} {w : List V} → Row (Item t s (DerivesIn t inner g)) i j w → i ≤ j
  sep_le s g each done = omega arith
  sep_le s g each (then {i} {k} {j} {u} {v} d r) = omega (arith, each (suc i) k u d.1, sep_le s g each r)

  pub le : (g : Grammar V F) (i j : ℕ) (w : List V) → DerivesIn t inner g i j w → i ≤ j
  le (keep s) i j w d = omega (arith, d.1)
  le (skip s) i j w d = omega (arith, d.1)
  le empty i j w d = omega (arith, d.0)
  le (ahead s) i j w d = omega (arith, d.1)
  le (seq a b) i j w (k, u, v, da, db, e) = omega (arith, le a i k u da, le b k j v db)
  le (alt a b) i j w (inl d) = le a i j w d
  le (alt a b) i j w (inr d) = le b i j w d
  le (many g) i j w d = row_le g (le g) d
  le (sep s g) i j w (k, r, inl e) = omega (arith, sep_le s g (le g) r)
  le (sep s g) i j w (k, r, inr e) = omega (arith, e.1, sep_le s g (le g) r)
  le (group o f c) i j w (p, k, d, q, e) = omega (arith, inner_le f (suc i) k w d)
  le (unless s g) i j w d = le g i j w d.1
  le (build h g) i j w (u, d, e) = le g i j u d

  pub null : (g : Grammar V F) (i j : ℕ) (w : List V) → DerivesIn t inner g i j w → j ≡ i → nullable g ≡ true
  null (keep s) i j w d e = absurd (omega (arith, d.1))
  null (skip s) i j w d e = absurd (omega (arith, d.1))
  null empty i j w d e = refl
  null (ahead s) i j w d e = refl
  null (seq a b) i j w (k, u, v, da, db, e1) e =
      let la : i ≤ k = le a i k u da in
      let lb : k ≤ j = le b k j v db in
      rw (null a i k u da (omega arith)) (null b k j v db (omega arith))
  null (alt a b) i j w (inl d) e = or_left (nullable a) (nullable b) (null a i j w d e)
  null (alt a b) i j w (inr d) e = or_right (nullable a) (nullable b) (null b i j w d e)
  null (many g) i j w d e = refl
  null (sep s g) i j w d e = refl
  null (group o f c) i j w (p, k, d, q, e1) e = absurd (omega (arith, inner_le f (suc i) k w d))
  null (unless s g) i j w d e = null g i j w d.1 e
  null (build h g) i j w (u, d, e1) e = null g i j u d e

  -- the token before j is of the set
  abbrev Ends : ℕ → List ℕ → Type 0
  Ends j s = member (t.kind (j - 1)) s ≡ true

  one_back : (i j : ℕ) (s : List ℕ) → member (t.kind i) s ≡ true → j ≡ suc i → Ends j s
  one_back i j s m e = subst (λ (k : ℕ). member (t.kind k) s ≡ true) (let z : i ≡ j - 1 = omega (arith, e) in z) m

  row_ends : (g : Grammar V F) (s : List ℕ) → ((i j : ℕ) (w : List V) → DerivesIn t inner g i j w → i < j → Ends j s)
      → {i j : ℕ} {w : List V} → Row (DerivesIn t inner g) i j w → i < j → Ends j s
  row_ends g s each done l = absurd (omega (arith, l))
  row_ends g s each (then {i} {k} {j} {u} {v} d r) l = elim (apart k j (row_le g (le g) r)) [
    | inl lt ↦ row_ends g s each r lt
    | inr e ↦ subst (λ (x : ℕ). Ends x s) e (each i k u d (omega (arith, e, l)))
  ]

  sep_ends : (s : List ℕ) (g : Grammar V F)
      → ((i j : ℕ) (w : List V) → DerivesIn t inner g i j w → i < j → Ends j (last g)) → {i j : ℕ} {w : List V}
      → Row (Item t s (DerivesIn t inner g)) i j w → i < j → Ends j (last g ++ s)
  sep_ends s g each done l = absurd (omega (arith, l))
  sep_ends s g each (then {i} {k} {j} {u} {v} d r) l = elim (apart k j (sep_le s g (le g) r)) [
    | inl lt ↦ sep_ends s g each r lt
    | inr e ↦ subst (λ (x : ℕ). Ends x (last g ++ s)) e (elim (apart (suc i) k (le g (suc i) k u d.1)) [
      | inl lt ↦ member_left (t.kind (k - 1)) (last g) s (each (suc i) k u d.1 lt)
      | inr z ↦ member_right (t.kind (k - 1)) (last g) s (one_back i k s d.0 (sym z))
    ])
  ]

  pub ends : (g : Grammar V F) (i j : ℕ) (w : List V) → DerivesIn t inner g i j w → i < j → Ends j (last g)
  ends (keep s) i j w d l = one_back i j s d.0 d.1
  ends (skip s) i j w d l = one_back i j s d.0 d.1
  ends empty i j w d l = absurd (omega (arith, d.0, l))
  ends (ahead s) i j w d l = absurd (omega (arith, d.1, l))
  ends (seq a b) i j w (k, u, v, da, db, e) l = elim (apart k j (le b k j v db)) [
    | inl lt ↦ member_left (t.kind (j - 1)) (last b) (when (nullable b) (last a)) (ends b k j v db lt)
    | inr z ↦ member_right (t.kind (j - 1)) (last b) (when (nullable b) (last a))
        (member_when (t.kind (j - 1)) (nullable b) (last a) (null b k j v db (sym z))
        (subst (λ (x : ℕ). Ends x (last a)) z (ends a i k u da (omega (arith, z, l)))))
  ]
  ends (alt a b) i j w (inl d) l = member_left (t.kind (j - 1)) (last a) (last b) (ends a i j w d l)
  ends (alt a b) i j w (inr d) l = member_right (t.kind (j - 1)) (last a) (last b) (ends b i j w d l)
  ends (many g) i j w d l = row_ends g (last g) (ends g) d l
  ends (sep s g) i j w (k, r, inl e) l = subst (λ (x : ℕ). Ends x (last g ++ s)) (sym e)
      (sep_ends s g (ends g) r (omega (arith, e, l)))
  ends (sep s g) i j w (k, r, inr e) l = member_right (t.kind (j - 1)) (last g) s (one_back k j s e.0 e.1)
  ends (group o f c) i j w (p, k, d, q, e) l = one_back k j c q e
  ends (unless s g) i j w d l = ends g i j w d.1 l
  ends (build h g) i j w (u, d, e) l = ends g i j u d l

pub derives_le : {V F : Type 0} → (rules : F → Grammar V F) → (t : Text V) → (n : ℕ) (f : F) (i j : ℕ) (u : List V)
    → Derives rules t n f i j u → i ≤ j
derives_le rules t zero f i j u d = absurd d
derives_le rules t (suc n) f i j u d = le t (Derives rules t n) (derives_le rules t n) (rules f) i j u d
