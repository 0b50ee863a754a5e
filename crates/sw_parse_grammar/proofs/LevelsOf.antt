-- A whole text closes what it opens, and a beginning within n levels opens at most n.
use Rattle.std.proofs.Common.{◌≡◌, ℕ, suc, ◌+◌, ◌-◌, ◌≤◌, ◌<◌, true, false, ◌&&◌, List, [], ◌∷◌, inl, inr, sym, ◌∙◌, subst, arith, eqb}
use Rattle.sw_parse_grammar.specs.Grammar.{Grammar, keep, skip, empty, ahead, seq, alt, many, sep, Item, group, unless, build, member, disjoint, Row, done, then, Text, DerivesIn, BeginsIn}
use Rattle.sw_parse_grammar.specs.Levels.{stepped, Levels, same, token, subset, nested, Bounded}
use Rattle.sw_parse_grammar.proofs.Sets.{and_both, or_cases, apart, true_or_false, at_true, at_false}
use Rattle.sw_parse_grammar.proofs.Laws.{derives_le, begins_le, sep_le}

pub member_subset : (k : ℕ) (xs ys : List ℕ) → subset xs ys ≡ true → member k xs ≡ true → member k ys ≡ true
member_subset k [] ys e h = absurd (cc)
member_subset k (x ∷ xs) ys e h =
    let b = and_both (member x ys) (subset xs ys) e in
    elim (or_cases (eqb k x) (member k xs) h) [
      | inl p ↦ subst (λ (z : ℕ). member z ys ≡ true) (back p) b.0
      | inr p ↦ member_subset k xs ys b.1 p
    ]
  where
    back : eqb k x ≡ true → x ≡ k
    back p = grind (arith, p)

pub outside : (k : ℕ) (s O : List ℕ) → disjoint s O ≡ true → member k s ≡ true → member k O ≡ false
outside k s O d m = elim (true_or_false (member k O)) [ inr e ↦ e | inl e ↦ absurd (apart k s O d m e) ]

module _ {V : Type 0} (t : Text V) (O C : List ℕ) where
  pub levels_le : {b i b' j : ℕ} → Levels t O C b i b' j → i ≤ j
  levels_le same = omega arith
  levels_le (token x) = omega (arith, levels_le x)

  pub joined : {b i c k d j : ℕ} → Levels t O C b i c k → Levels t O C c k d j → Levels t O C b i d j
  joined same y = y
  joined (token x) y = token (joined x y)

  pub split : {b i c k b' p : ℕ} → Levels t O C b i c k → Levels t O C b i b' p → k ≤ p → Levels t O C c k b' p
  split same y l = y
  split (token x) same l = absurd (omega (arith, levels_le x))
  split (token x) (token y) l = split x y l

  pub plain : (b i : ℕ) → member (t.kind i) O ≡ false → member (t.kind i) C ≡ false → Levels t O C b i b (suc i)
  plain b i o c =
      let e : stepped O C b (t.kind i) ≡ b = at_false (member (t.kind i) O) (suc b) _ o ∙ at_false (member (t.kind i) C) (b - 1) b c in
      token (subst (λ (z : ℕ). Levels t O C z (suc i) b (suc i)) (sym e) same)

  pub opened : (b i : ℕ) → member (t.kind i) O ≡ true → Levels t O C b i (suc b) (suc i)
  opened b i o = token (subst (λ (z : ℕ). Levels t O C z (suc i) (suc b) (suc i)) (sym (at_true (member (t.kind i) O) (suc b) _ o)) same)

  closed : (b i : ℕ) → member (t.kind i) O ≡ false → member (t.kind i) C ≡ true → Levels t O C (suc b) i b (suc i)
  closed b i o c =
      let e : stepped O C (suc b) (t.kind i) ≡ b = at_false (member (t.kind i) O) (suc (suc b)) _ o ∙ at_true (member (t.kind i) C) (suc b - 1) (suc b) c ∙ less in
      token (subst (λ (z : ℕ). Levels t O C z (suc i) b (suc i)) (sym e) same)
    where
      less : suc b - 1 ≡ b
      less = omega arith

  module _ {F : Type 0} (inner : F → ℕ → ℕ → List V → Type 0) (inner_levels : (f : F) (i j : ℕ) (u : List V) → inner f i j u → (b : ℕ) → Levels t O C b i b j) where
    row_levels : (g : Grammar V F) → ((i j : ℕ) (w : List V) → DerivesIn t inner g i j w → (b : ℕ) → Levels t O C b i b j) → {i j : ℕ} {w : List V} → Row (DerivesIn t inner g) i j w → (b : ℕ) → Levels t O C b i b j
    row_levels g each done b = same
    row_levels g each (then {i} {k} {j} {u} {v} d r) b = joined (each i k u d b) (row_levels g each r b)

    pub sep_levels : (s : List ℕ) (g : Grammar V F) → disjoint s O ≡ true → disjoint s C ≡ true → ((i j : ℕ) (w : List V) → DerivesIn t inner g i j w → (b : ℕ) → Levels t O C b i b j) → {i j : ℕ} {w : List V} → Row (Item t s (DerivesIn t inner g)) i j w → (b : ℕ) → Levels t O C b i b j
    sep_levels s g so sc each done b = same
    sep_levels s g so sc each (then {i} {k} {j} {u} {v} d r) b =
        joined (plain b i (outside (t.kind i) s O so d.0) (outside (t.kind i) s C sc d.0)) (joined (each (suc i) k u d.1 b) (sep_levels s g so sc each r b))

    -- a whole text closes what it opens
    pub derives_levels : (g : Grammar V F) → nested O C g ≡ true → (i j : ℕ) (w : List V) → DerivesIn t inner g i j w → (b : ℕ) → Levels t O C b i b j
    derives_levels (keep s) ok i j w d b =
        let o = and_both (disjoint s O) (disjoint s C) ok in
        subst (λ (z : ℕ). Levels t O C b i b z) (sym d.1) (plain b i (outside (t.kind i) s O o.0 d.0) (outside (t.kind i) s C o.1 d.0))
    derives_levels (skip s) ok i j w d b =
        let o = and_both (disjoint s O) (disjoint s C) ok in
        subst (λ (z : ℕ). Levels t O C b i b z) (sym d.1) (plain b i (outside (t.kind i) s O o.0 d.0) (outside (t.kind i) s C o.1 d.0))
    derives_levels empty ok i j w d b = subst (λ (z : ℕ). Levels t O C b i b z) (sym d.0) same
    derives_levels (ahead s) ok i j w d b = subst (λ (z : ℕ). Levels t O C b i b z) (sym d.1) same
    derives_levels (seq x y) ok i j w (k, u, v, dx, dy, e) b =
        let o = and_both (nested O C x) (nested O C y) ok in joined (derives_levels x o.0 i k u dx b) (derives_levels y o.1 k j v dy b)
    derives_levels (alt x y) ok i j w (inl d) b = derives_levels x (and_both (nested O C x) (nested O C y) ok).0 i j w d b
    derives_levels (alt x y) ok i j w (inr d) b = derives_levels y (and_both (nested O C x) (nested O C y) ok).1 i j w d b
    derives_levels (many g) ok i j w d b = row_levels g (derives_levels g ok) d b
    derives_levels (sep s g) ok i j w (k, r, inl e) b =
        let o = and_both (disjoint s O && disjoint s C) (nested O C g) ok in
        let o2 = and_both (disjoint s O) (disjoint s C) o.0 in
        subst (λ (z : ℕ). Levels t O C b i b z) (sym e) (sep_levels s g o2.0 o2.1 (derives_levels g o.1) r b)
    derives_levels (sep s g) ok i j w (k, r, inr e) b =
        let o = and_both (disjoint s O && disjoint s C) (nested O C g) ok in
        let o2 = and_both (disjoint s O) (disjoint s C) o.0 in
        subst (λ (z : ℕ). Levels t O C b i b z) (sym e.1)
        (joined (sep_levels s g o2.0 o2.1 (derives_levels g o.1) r b) (plain b k (outside (t.kind k) s O o2.0 e.0) (outside (t.kind k) s C o2.1 e.0)))
    derives_levels (group o f c) ok i j w (p, k, d, q, e) b =
        let x = and_both (subset o O) (subset c C && disjoint c O) ok in
        let y = and_both (subset c C) (disjoint c O) x.1 in
        subst (λ (z : ℕ). Levels t O C b i b z) (sym e)
        (joined (opened b i (member_subset (t.kind i) o O x.0 p)) (joined (inner_levels f (suc i) k w d (suc b))
        (closed b k (outside (t.kind k) c O y.1 q) (member_subset (t.kind k) c C y.0 q))))
    derives_levels (unless s g) ok i j w d b = derives_levels g ok i j w d.1 b
    derives_levels (build h g) ok i j w (u, d, e) b = derives_levels g ok i j u d b

-- What may open one level more, and keeps each opening token below n levels, opens at most n.
module _ {V F : Type 0} (t : Text V) (O C : List ℕ) (inner wide : F → ℕ → ℕ → List V → Type 0) (begun wider : F → ℕ → ℕ → Type 0) (n : ℕ)
    (wide_levels : (f : F) (i j : ℕ) (u : List V) → wide f i j u → (b : ℕ) → Levels t O C b i b j)
    (wide_le : (f : F) (i j : ℕ) (u : List V) → wide f i j u → i ≤ j)
    (wider_le : (f : F) (i m : ℕ) → wider f i m → i ≤ m)
    (narrow : (f : F) (i j b : ℕ) (u : List V) → 1 ≤ n → wide f i j u → Bounded t O C (suc b) i j (b + n) → inner f i j u)
    (narrow' : (f : F) (i m b : ℕ) → 1 ≤ n → wider f i m → Bounded t O C (suc b) i m (b + n) → begun f i m)
  where
    behind : (b c i k m top : ℕ) → Levels t O C b i c k → Bounded t O C b i m top → Bounded t O C c k m top
    behind b c i k m top l h p b' x lt at = h p b' (joined t O C l x) lt at

    before : (b i k m top : ℕ) → k ≤ m → Bounded t O C b i m top → Bounded t O C b i k top
    before b i k m top le h p b' x lt at = h p b' x (omega arith) at

    row_narrow : (g : Grammar V F) → nested O C g ≡ true → ((i j b : ℕ) (w : List V) → DerivesIn t wide g i j w → Bounded t O C b i j (b + n) → DerivesIn t inner g i j w)
        → (b : ℕ) {i j : ℕ} {w : List V} → Row (DerivesIn t wide g) i j w → Bounded t O C b i j (b + n) → Row (DerivesIn t inner g) i j w
    row_narrow g ok each b done h = done
    row_narrow g ok each b (then {i} {k} {j} {u} {v} d r) h =
        then (each i k b u d (before b i k j (b + n) (derives_le t wide wider wide_le wider_le (many g) k j v r) h))
        (row_narrow g ok each b r (behind b b i k j (b + n) (derives_levels t O C wide wide_levels g ok i k u d b) h))

    sep_narrow : (s : List ℕ) (g : Grammar V F) → disjoint s O ≡ true → disjoint s C ≡ true → nested O C g ≡ true → ((i j b : ℕ) (w : List V) → DerivesIn t wide g i j w → Bounded t O C b i j (b + n) → DerivesIn t inner g i j w)
        → (b : ℕ) {i j : ℕ} {w : List V} → Row (Item t s (DerivesIn t wide g)) i j w → Bounded t O C b i j (b + n) → Row (Item t s (DerivesIn t inner g)) i j w
    sep_narrow s g so sc ok each b done h = done
    sep_narrow s g so sc ok each b (then {i} {k} {j} {u} {v} d r) h =
        let le : k ≤ j = sep_le t wide wider wide_le wider_le s g (derives_le t wide wider wide_le wider_le g) r in
        let h1 = behind b b i (suc i) j (b + n) (plain t O C b i (outside (t.kind i) s O so d.0) (outside (t.kind i) s C sc d.0)) h in
        then (d.0, each (suc i) k b u d.1 (before b (suc i) k j (b + n) le h1))
        (sep_narrow s g so sc ok each b r (behind b b (suc i) k j (b + n) (derives_levels t O C wide wide_levels g ok (suc i) k u d.1 b) h1))

    first_opens : (b i j : ℕ) → i < j → Bounded t O C b i j (b + n) → member (t.kind i) O ≡ true → 1 ≤ n
    first_opens b i j lt h at = let x : b < b + n = h i b same lt at in omega arith

    pub derives_narrow : (g : Grammar V F) → nested O C g ≡ true → (i j b : ℕ) (w : List V) → DerivesIn t wide g i j w → Bounded t O C b i j (b + n) → DerivesIn t inner g i j w
    derives_narrow (keep s) ok i j b w d h = d
    derives_narrow (skip s) ok i j b w d h = d
    derives_narrow empty ok i j b w d h = d
    derives_narrow (ahead s) ok i j b w d h = d
    derives_narrow (seq x y) ok i j b w (k, u, v, dx, dy, e) h =
        let o = and_both (nested O C x) (nested O C y) ok in (
          k,
          u,
          v,
          derives_narrow x o.0 i k b u dx (before b i k j (b + n) (derives_le t wide wider wide_le wider_le y k j v dy) h),
          derives_narrow y o.1 k j b v dy (behind b b i k j (b + n) (derives_levels t O C wide wide_levels x o.0 i k u dx b) h),
          e,
        )
    derives_narrow (alt x y) ok i j b w (inl d) h = inl (derives_narrow x (and_both (nested O C x) (nested O C y) ok).0 i j b w d h)
    derives_narrow (alt x y) ok i j b w (inr d) h = inr (derives_narrow y (and_both (nested O C x) (nested O C y) ok).1 i j b w d h)
    derives_narrow (many g) ok i j b w d h = row_narrow g ok (derives_narrow g ok) b d h
    derives_narrow (sep s g) ok i j b w (k, r, x) h =
        let o = and_both (disjoint s O && disjoint s C) (nested O C g) ok in
        let o2 = and_both (disjoint s O) (disjoint s C) o.0 in
        let le : k ≤ j = elim x [ inl e ↦ omega arith | inr e ↦ omega (arith, e.1) ] in
        (k, sep_narrow s g o2.0 o2.1 o.1 (derives_narrow g o.1) b r (before b i k j (b + n) le h), x)
    derives_narrow (group o f c) ok i j b w (p, k, d, q, e) h =
        let x = and_both (subset o O) (subset c C && disjoint c O) ok in
        let op = member_subset (t.kind i) o O x.0 p in
        let le : suc i ≤ k = wide_le f (suc i) k w d in (
          p,
          k,
          narrow f (suc i) k b w (first_opens b i j (omega (arith, le)) h op) d
              (before (suc b) (suc i) k j (b + n) (omega arith) (behind b (suc b) i (suc i) j (b + n) (opened t O C b i op) h)),
          q,
          e,
        )
    derives_narrow (unless s g) ok i j b w d h = (d.0, derives_narrow g ok i j b w d.1 h)
    derives_narrow (build f g) ok i j b w (u, d, e) h = (u, derives_narrow g ok i j b u d h, e)

    pub begins_narrow : (g : Grammar V F) → nested O C g ≡ true → (i m b : ℕ) → BeginsIn t wide wider g i m → Bounded t O C b i m (b + n) → BeginsIn t inner begun g i m
    begins_narrow (keep s) ok i m b x h = x
    begins_narrow (skip s) ok i m b x h = x
    begins_narrow empty ok i m b x h = x
    begins_narrow (ahead s) ok i m b x h = x
    begins_narrow (seq x y) ok i m b (inl z) h = inl (begins_narrow x (and_both (nested O C x) (nested O C y) ok).0 i m b z h)
    begins_narrow (seq x y) ok i m b (inr (k, u, d, z)) h =
        let o = and_both (nested O C x) (nested O C y) ok in
        inr (
          k,
          u,
          derives_narrow x o.0 i k b u d (before b i k m (b + n) (begins_le t wide wider wide_le wider_le y k m z) h),
          begins_narrow y o.1 k m b z (behind b b i k m (b + n) (derives_levels t O C wide wide_levels x o.0 i k u d b) h),
        )
    begins_narrow (alt x y) ok i m b (inl z) h = inl (begins_narrow x (and_both (nested O C x) (nested O C y) ok).0 i m b z h)
    begins_narrow (alt x y) ok i m b (inr z) h = inr (begins_narrow y (and_both (nested O C x) (nested O C y) ok).1 i m b z h)
    begins_narrow (many g) ok i m b (k, u, r, inl e) h = (k, u, row_narrow g ok (derives_narrow g ok) b r (before b i k m (b + n) (omega arith) h), inl e)
    begins_narrow (many g) ok i m b (k, u, r, inr z) h = (
      k,
      u,
      row_narrow g ok (derives_narrow g ok) b r (before b i k m (b + n) (begins_le t wide wider wide_le wider_le g k m z) h),
      inr (begins_narrow g ok k m b z (behind b b i k m (b + n) (derives_levels t O C wide wide_levels (many g) ok i k u r b) h)),
    )
    begins_narrow (sep s g) ok i m b (k, u, r, inl e) h =
        let o = and_both (disjoint s O && disjoint s C) (nested O C g) ok in
        let o2 = and_both (disjoint s O) (disjoint s C) o.0 in
        (k, u, sep_narrow s g o2.0 o2.1 o.1 (derives_narrow g o.1) b r (before b i k m (b + n) (omega arith) h), inl e)
    begins_narrow (sep s g) ok i m b (k, u, r, inr z) h =
        let o = and_both (disjoint s O && disjoint s C) (nested O C g) ok in
        let o2 = and_both (disjoint s O) (disjoint s C) o.0 in
        let le : suc k ≤ m = begins_le t wide wider wide_le wider_le g (suc k) m z.1 in (
          k,
          u,
          sep_narrow s g o2.0 o2.1 o.1 (derives_narrow g o.1) b r (before b i k m (b + n) (omega (arith, le)) h),
          inr (
            z.0,
            begins_narrow g o.1 (suc k) m b z.1
                (behind b b i (suc k) m (b + n) (joined t O C (sep_levels t O C wide wide_levels s g o2.0 o2.1 (derives_levels t O C wide wide_levels g o.1) r b) (plain t O C b k (outside (t.kind k) s O o2.0 z.0) (outside (t.kind k) s C o2.1 z.0))) h),
          ),
        )
    begins_narrow (group o f c) ok i m b (inl e) h = inl e
    begins_narrow (group o f c) ok i m b (inr (p, inl z)) h =
        let x = and_both (subset o O) (subset c C && disjoint c O) ok in
        let op = member_subset (t.kind i) o O x.0 p in
        let le : suc i ≤ m = wider_le f (suc i) m z in
        inr (p, inl (narrow' f (suc i) m b (first_opens b i m (omega (arith, le)) h op) z (behind b (suc b) i (suc i) m (b + n) (opened t O C b i op) h)))
    begins_narrow (group o f c) ok i m b (inr (p, inr (k, u, d, q, e))) h =
        let x = and_both (subset o O) (subset c C && disjoint c O) ok in
        let op = member_subset (t.kind i) o O x.0 p in
        let le : suc i ≤ k = wide_le f (suc i) k u d in
        inr (
          p,
          inr (
            k,
            u,
            narrow f (suc i) k b u (first_opens b i m (omega (arith, le, e)) h op) d
                (before (suc b) (suc i) k m (b + n) (omega (arith, e)) (behind b (suc b) i (suc i) m (b + n) (opened t O C b i op) h)),
            q,
            e,
          ),
        )
    begins_narrow (unless s g) ok i m b (inl e) h = inl e
    begins_narrow (unless s g) ok i m b (inr z) h = inr (z.0, begins_narrow g ok i m b z.1 h)
    begins_narrow (build f g) ok i m b z h = begins_narrow g ok i m b z h
