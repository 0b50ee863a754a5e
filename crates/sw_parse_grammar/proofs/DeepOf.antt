-- The place where a reader finds a level too many is the first token that opens it.
use Rattle.std.proofs.Common.{◌≡◌, ℕ, zero, suc, ◌+◌, ◌-◌, ◌≤◌, ◌<◌, true, false, ◌&&◌, ◌⊎◌, List, inl, inr, sym, subst, arith}
use Rattle.sw_parse_grammar.specs.Grammar.{Grammar, keep, skip, empty, ahead, seq, alt, many, sep, Item, group, unless, build, member, disjoint, Row, done, then, Text, DerivesIn, BeginsIn, Derives, Begins, Answer, Got, Unexpected, TooDeep, Reads}
use Rattle.sw_parse_grammar.specs.Levels.{stepped, Levels, same, token, subset, nested, Bounded, FirstDeep, ReadsDeep}
use Rattle.sw_parse_grammar.proofs.Sets.{and_both, true_or_false}
use Rattle.sw_parse_grammar.proofs.Laws.{derives_le, begins_le}
use Rattle.sw_parse_grammar.proofs.LevelsOf.{member_subset, outside, levels_le, split, plain, opened, sep_levels, derives_levels, derives_narrow, begins_narrow}

zero_plus : (n : ℕ) → 0 + n ≡ n
zero_plus n = omega arith

lt_or_le : (a b : ℕ) → (a < b) ⊎ (b ≤ a)
lt_or_le a b = grind arith

module _ {V : Type 0} (t : Text V) (O C : List ℕ) where
  both : (b c i k j top : ℕ) → Levels t O C b i c k → Bounded t O C b i k top → Bounded t O C c k j top → Bounded t O C b i j top
  both b c i k j top l x y p b' z lt at =
      elim (lt_or_le p k) [ inl h ↦ x p b' z h at | inr h ↦ y p b' (split t O C l z h) lt at ]

  none : (b i top : ℕ) → Bounded t O C b i i top
  none b i top p b' z lt at = let l = levels_le t O C z in absurd (omega arith)

  one : (b i top : ℕ) → member (t.kind i) O ≡ false → Bounded t O C b i (suc i) top
  one b i top off p b' z lt at =
      let l = levels_le t O C z in
      let e : p ≡ i = omega arith in
      let x = subst (λ (q : ℕ). member (t.kind q) O ≡ true) e at in absurd (cc)

  opens : (b i top : ℕ) → b < top → Bounded t O C b i (suc i) top
  opens b i top lt p b' same l at = lt
  opens b i top lt p b' (token z) l at = let x = levels_le t O C z in absurd (omega arith)

  module _ {F : Type 0} (inner : F → ℕ → ℕ → List V → Type 0) (begun : F → ℕ → ℕ → Type 0) (n : ℕ)
      (inner_levels : (f : F) (i j : ℕ) (u : List V) → inner f i j u → (b : ℕ) → Levels t O C b i b j)
      (inner_ok : (f : F) (i j : ℕ) (u : List V) → inner f i j u → (1 ≤ n) × ((b : ℕ) → Bounded t O C (suc b) i j (b + n)))
      (begun_ok : (f : F) (i m : ℕ) → begun f i m → (1 ≤ n) × ((b : ℕ) → Bounded t O C (suc b) i m (b + n)))
    where
      row_bounded : (g : Grammar V F) → nested O C g ≡ true → ((i j : ℕ) (w : List V) → DerivesIn t inner g i j w → (b : ℕ) → Bounded t O C b i j (b + n))
          → {i j : ℕ} {w : List V} → Row (DerivesIn t inner g) i j w → (b : ℕ) → Bounded t O C b i j (b + n)
      row_bounded g ok each (done {i}) b = none b i (b + n)
      row_bounded g ok each (then {i} {k} {j} {u} {v} d r) b =
          both b b i k j (b + n) (derives_levels t O C inner inner_levels g ok i k u d b) (each i k u d b) (row_bounded g ok each r b)

      sep_bounded : (s : List ℕ) (g : Grammar V F) → disjoint s O ≡ true → disjoint s C ≡ true → nested O C g ≡ true → ((i j : ℕ) (w : List V) → DerivesIn t inner g i j w → (b : ℕ) → Bounded t O C b i j (b + n))
          → {i j : ℕ} {w : List V} → Row (Item t s (DerivesIn t inner g)) i j w → (b : ℕ) → Bounded t O C b i j (b + n)
      sep_bounded s g so sc ok each (done {i}) b = none b i (b + n)
      sep_bounded s g so sc ok each (then {i} {k} {j} {u} {v} d r) b =
          let o = outside (t.kind i) s O so d.0 in
          let c = outside (t.kind i) s C sc d.0 in
          both b b i (suc i) j (b + n) (plain t O C b i o c) (one b i (b + n) o)
          (both b b (suc i) k j (b + n) (derives_levels t O C inner inner_levels g ok (suc i) k u d.1 b) (each (suc i) k u d.1 b) (sep_bounded s g so sc ok each r b))

      derives_bounded : (g : Grammar V F) → nested O C g ≡ true → (i j : ℕ) (w : List V) → DerivesIn t inner g i j w → (b : ℕ) → Bounded t O C b i j (b + n)
      derives_bounded (keep s) ok i j w d b =
          subst (λ (z : ℕ). Bounded t O C b i z (b + n)) (sym d.1) (one b i (b + n) (outside (t.kind i) s O (and_both (disjoint s O) (disjoint s C) ok).0 d.0))
      derives_bounded (skip s) ok i j w d b =
          subst (λ (z : ℕ). Bounded t O C b i z (b + n)) (sym d.1) (one b i (b + n) (outside (t.kind i) s O (and_both (disjoint s O) (disjoint s C) ok).0 d.0))
      derives_bounded empty ok i j w d b = subst (λ (z : ℕ). Bounded t O C b i z (b + n)) (sym d.0) (none b i (b + n))
      derives_bounded (ahead s) ok i j w d b = subst (λ (z : ℕ). Bounded t O C b i z (b + n)) (sym d.1) (none b i (b + n))
      derives_bounded (seq x y) ok i j w (k, u, v, dx, dy, e) b =
          let o = and_both (nested O C x) (nested O C y) ok in
          both b b i k j (b + n) (derives_levels t O C inner inner_levels x o.0 i k u dx b) (derives_bounded x o.0 i k u dx b) (derives_bounded y o.1 k j v dy b)
      derives_bounded (alt x y) ok i j w (inl d) b = derives_bounded x (and_both (nested O C x) (nested O C y) ok).0 i j w d b
      derives_bounded (alt x y) ok i j w (inr d) b = derives_bounded y (and_both (nested O C x) (nested O C y) ok).1 i j w d b
      derives_bounded (many g) ok i j w d b = row_bounded g ok (derives_bounded g ok) d b
      derives_bounded (sep s g) ok i j w (k, r, inl e) b =
          let o = and_both (disjoint s O && disjoint s C) (nested O C g) ok in
          let o2 = and_both (disjoint s O) (disjoint s C) o.0 in
          subst (λ (z : ℕ). Bounded t O C b i z (b + n)) (sym e) (sep_bounded s g o2.0 o2.1 o.1 (derives_bounded g o.1) r b)
      derives_bounded (sep s g) ok i j w (k, r, inr e) b =
          let o = and_both (disjoint s O && disjoint s C) (nested O C g) ok in
          let o2 = and_both (disjoint s O) (disjoint s C) o.0 in
          subst (λ (z : ℕ). Bounded t O C b i z (b + n)) (sym e.1)
          (both b b i k (suc k) (b + n) (sep_levels t O C inner inner_levels s g o2.0 o2.1 (derives_levels t O C inner inner_levels g o.1) r b)
          (sep_bounded s g o2.0 o2.1 o.1 (derives_bounded g o.1) r b) (one b k (b + n) (outside (t.kind k) s O o2.0 e.0)))
      derives_bounded (group o f c) ok i j w (p, k, d, q, e) b =
          let x = and_both (subset o O) (subset c C && disjoint c O) ok in
          let y = and_both (subset c C) (disjoint c O) x.1 in
          let h = inner_ok f (suc i) k w d in
          let lt : b < b + n = omega (arith, h.0) in
          subst (λ (z : ℕ). Bounded t O C b i z (b + n)) (sym e)
          (both b (suc b) i (suc i) (suc k) (b + n) (opened t O C b i (member_subset (t.kind i) o O x.0 p)) (opens b i (b + n) lt)
          (both (suc b) (suc b) (suc i) k (suc k) (b + n) (inner_levels f (suc i) k w d (suc b)) (h.1 b) (one (suc b) k (b + n) (outside (t.kind k) c O y.1 q))))
      derives_bounded (unless s g) ok i j w d b = derives_bounded g ok i j w d.1 b
      derives_bounded (build h g) ok i j w (u, d, e) b = derives_bounded g ok i j u d b

      one_or_none : (s : List ℕ) (i m b : ℕ) → disjoint s O ≡ true → (m ≡ i) ⊎ ((member (t.kind i) s ≡ true) × (m ≡ suc i)) → Bounded t O C b i m (b + n)
      one_or_none s i m b so (inl e) = subst (λ (z : ℕ). Bounded t O C b i z (b + n)) (sym e) (none b i (b + n))
      one_or_none s i m b so (inr e) = subst (λ (z : ℕ). Bounded t O C b i z (b + n)) (sym e.1) (one b i (b + n) (outside (t.kind i) s O so e.0))

      begins_bounded : (g : Grammar V F) → nested O C g ≡ true → (i m : ℕ) → BeginsIn t inner begun g i m → (b : ℕ) → Bounded t O C b i m (b + n)
      begins_bounded (keep s) ok i m x b = one_or_none s i m b (and_both (disjoint s O) (disjoint s C) ok).0 x
      begins_bounded (skip s) ok i m x b = one_or_none s i m b (and_both (disjoint s O) (disjoint s C) ok).0 x
      begins_bounded empty ok i m x b = subst (λ (z : ℕ). Bounded t O C b i z (b + n)) (sym x) (none b i (b + n))
      begins_bounded (ahead s) ok i m x b = subst (λ (z : ℕ). Bounded t O C b i z (b + n)) (sym x) (none b i (b + n))
      begins_bounded (seq x y) ok i m (inl z) b = begins_bounded x (and_both (nested O C x) (nested O C y) ok).0 i m z b
      begins_bounded (seq x y) ok i m (inr (k, u, d, z)) b =
          let o = and_both (nested O C x) (nested O C y) ok in
          both b b i k m (b + n) (derives_levels t O C inner inner_levels x o.0 i k u d b) (derives_bounded x o.0 i k u d b) (begins_bounded y o.1 k m z b)
      begins_bounded (alt x y) ok i m (inl z) b = begins_bounded x (and_both (nested O C x) (nested O C y) ok).0 i m z b
      begins_bounded (alt x y) ok i m (inr z) b = begins_bounded y (and_both (nested O C x) (nested O C y) ok).1 i m z b
      begins_bounded (many g) ok i m (k, u, r, inl e) b = subst (λ (z : ℕ). Bounded t O C b i z (b + n)) (sym e) (row_bounded g ok (derives_bounded g ok) r b)
      begins_bounded (many g) ok i m (k, u, r, inr z) b =
          both b b i k m (b + n) (derives_levels t O C inner inner_levels (many g) ok i k u r b) (row_bounded g ok (derives_bounded g ok) r b) (begins_bounded g ok k m z b)
      begins_bounded (sep s g) ok i m (k, u, r, inl e) b =
          let o = and_both (disjoint s O && disjoint s C) (nested O C g) ok in
          let o2 = and_both (disjoint s O) (disjoint s C) o.0 in
          subst (λ (z : ℕ). Bounded t O C b i z (b + n)) (sym e) (sep_bounded s g o2.0 o2.1 o.1 (derives_bounded g o.1) r b)
      begins_bounded (sep s g) ok i m (k, u, r, inr z) b =
          let o = and_both (disjoint s O && disjoint s C) (nested O C g) ok in
          let o2 = and_both (disjoint s O) (disjoint s C) o.0 in
          let so = outside (t.kind k) s O o2.0 z.0 in
          let sc = outside (t.kind k) s C o2.1 z.0 in
          both b b i k m (b + n) (sep_levels t O C inner inner_levels s g o2.0 o2.1 (derives_levels t O C inner inner_levels g o.1) r b) (sep_bounded s g o2.0 o2.1 o.1 (derives_bounded g o.1) r b)
          (both b b k (suc k) m (b + n) (plain t O C b k so sc) (one b k (b + n) so) (begins_bounded g o.1 (suc k) m z.1 b))
      begins_bounded (group o f c) ok i m (inl e) b = subst (λ (z : ℕ). Bounded t O C b i z (b + n)) (sym e) (none b i (b + n))
      begins_bounded (group o f c) ok i m (inr (p, inl z)) b =
          let x = and_both (subset o O) (subset c C && disjoint c O) ok in
          let h = begun_ok f (suc i) m z in
          let lt : b < b + n = omega (arith, h.0) in
          both b (suc b) i (suc i) m (b + n) (opened t O C b i (member_subset (t.kind i) o O x.0 p)) (opens b i (b + n) lt) (h.1 b)
      begins_bounded (group o f c) ok i m (inr (p, inr (k, u, d, q, e))) b = derives_bounded (group o f c) ok i m u (p, k, d, q, e) b
      begins_bounded (unless s g) ok i m (inl e) b = subst (λ (z : ℕ). Bounded t O C b i z (b + n)) (sym e) (none b i (b + n))
      begins_bounded (unless s g) ok i m (inr z) b = begins_bounded g ok i m z.1 b
      begins_bounded (build h g) ok i m z b = begins_bounded g ok i m z b

module _ {V F : Type 0} (rules : F → Grammar V F) (t : Text V) (O C : List ℕ) (ok : (f : F) → nested O C (rules f) ≡ true) where
  mutual
    d_le : (n : ℕ) (f : F) (i j : ℕ) (u : List V) → Derives rules t n f i j u → i ≤ j
    d_le zero f i j u x = absurd x
    d_le (suc n) f i j u x = derives_le t (Derives rules t n) (Begins rules t n) (d_le n) (b_le n) (rules f) i j u x

    b_le : (n : ℕ) (f : F) (i m : ℕ) → Begins rules t n f i m → i ≤ m
    b_le zero f i m x = absurd x
    b_le (suc n) f i m x = begins_le t (Derives rules t n) (Begins rules t n) (d_le n) (b_le n) (rules f) i m x

  levels_of : (n : ℕ) (f : F) (i j : ℕ) (u : List V) → Derives rules t n f i j u → (b : ℕ) → Levels t O C b i b j
  levels_of zero f i j u x b = absurd x
  levels_of (suc n) f i j u x b = derives_levels t O C (Derives rules t n) (levels_of n) (rules f) (ok f) i j u x b

  -- n levels open at most n
  mutual
    d_bounded : (n : ℕ) (f : F) (i j : ℕ) (u : List V) → Derives rules t n f i j u → (1 ≤ n) × ((b : ℕ) → Bounded t O C (suc b) i j (b + n))
    d_bounded zero f i j u x = absurd x
    d_bounded (suc n) f i j u x = (
      omega arith,
      λ b. subst (λ (z : ℕ). Bounded t O C (suc b) i j z) (omega arith)
          (derives_bounded t O C (Derives rules t n) (Begins rules t n) n (levels_of n) (d_bounded n) (b_bounded n) (rules f) (ok f) i j u x (suc b)),
    )

    b_bounded : (n : ℕ) (f : F) (i m : ℕ) → Begins rules t n f i m → (1 ≤ n) × ((b : ℕ) → Bounded t O C (suc b) i m (b + n))
    b_bounded zero f i m x = absurd x
    b_bounded (suc n) f i m x = (
      omega arith,
      λ b. subst (λ (z : ℕ). Bounded t O C (suc b) i m z) (omega arith)
          (begins_bounded t O C (Derives rules t n) (Begins rules t n) n (levels_of n) (d_bounded n) (b_bounded n) (rules f) (ok f) i m x (suc b)),
    )

  pub form_derives_bounded : (n : ℕ) (f : F) (i j : ℕ) (u : List V) → Derives rules t (suc n) f i j u → Bounded t O C 0 i j n
  form_derives_bounded n f i j u x = subst (λ (z : ℕ). Bounded t O C 0 i j z) (zero_plus n) (derives_bounded t O C (Derives rules t n) (Begins rules t n) n (levels_of n) (d_bounded n) (b_bounded n) (rules f) (ok f) i j u x 0)

  pub form_begins_bounded : (n : ℕ) (f : F) (i m : ℕ) → Begins rules t (suc n) f i m → Bounded t O C 0 i m n
  form_begins_bounded n f i m x = subst (λ (z : ℕ). Bounded t O C 0 i m z) (zero_plus n) (begins_bounded t O C (Derives rules t n) (Begins rules t n) n (levels_of n) (d_bounded n) (b_bounded n) (rules f) (ok f) i m x 0)

  -- what opens at most n levels needs no more
  mutual
    d_narrow : (n m : ℕ) (f : F) (i j b : ℕ) (u : List V) → 1 ≤ n → Derives rules t m f i j u → Bounded t O C (suc b) i j (b + n) → Derives rules t n f i j u
    d_narrow zero m f i j b u l x h = absurd (omega arith)
    d_narrow (suc n) zero f i j b u l x h = absurd x
    d_narrow (suc n) (suc m) f i j b u l x h =
        derives_narrow t O C (Derives rules t n) (Derives rules t m) (Begins rules t n) (Begins rules t m) n (levels_of m) (d_le m) (b_le m)
        (λ f i j b u. d_narrow n m f i j b u) (λ f i j b. b_narrow n m f i j b) (rules f) (ok f) i j (suc b) u x
        (subst (λ (z : ℕ). Bounded t O C (suc b) i j z) (omega arith) h)

    b_narrow : (n m : ℕ) (f : F) (i j b : ℕ) → 1 ≤ n → Begins rules t m f i j → Bounded t O C (suc b) i j (b + n) → Begins rules t n f i j
    b_narrow zero m f i j b l x h = absurd (omega arith)
    b_narrow (suc n) zero f i j b l x h = absurd x
    b_narrow (suc n) (suc m) f i j b l x h =
        begins_narrow t O C (Derives rules t n) (Derives rules t m) (Begins rules t n) (Begins rules t m) n (levels_of m) (d_le m) (b_le m)
        (λ f i j b u. d_narrow n m f i j b u) (λ f i j b. b_narrow n m f i j b) (rules f) (ok f) i j (suc b) x
        (subst (λ (z : ℕ). Bounded t O C (suc b) i j z) (omega arith) h)

  pub form_begins_narrow : (n m : ℕ) (f : F) (i j : ℕ) → Begins rules t m f i j → Bounded t O C 0 i j n → Begins rules t (suc n) f i j
  form_begins_narrow n zero f i j x h = absurd x
  form_begins_narrow n (suc m) f i j x h =
      begins_narrow t O C (Derives rules t n) (Derives rules t m) (Begins rules t n) (Begins rules t m) n (levels_of m) (d_le m) (b_le m)
      (λ f i j b u. d_narrow n m f i j b u) (λ f i j b. b_narrow n m f i j b) (rules f) (ok f) i j 0 x (subst (λ (z : ℕ). Bounded t O C 0 i j z) (sym (zero_plus n)) h)

  -- how many levels are open somewhere behind i
  level_at : (d b i : ℕ) → (b' : ℕ) × Levels t O C b i b' (d + i)
  level_at zero b i = (b, subst (λ (z : ℕ). Levels t O C b i b z) (omega arith) same)
  level_at (suc d) b i =
      let r = level_at d (stepped O C b (t.kind i)) (suc i) in
      (r.0, token (subst (λ (z : ℕ). Levels t O C (stepped O C b (t.kind i)) (suc i) r.0 z) (omega arith) r.1))

  level_to : (i k : ℕ) → i ≤ k → (b' : ℕ) × Levels t O C 0 i b' k
  level_to i k l = let r = level_at (k - i) 0 i in (r.0, subst (λ (z : ℕ). Levels t O C 0 i r.0 z) (omega arith) r.1)

  -- one token more
  extends : (i k n b' : ℕ) → Levels t O C 0 i b' k → (member (t.kind k) O ≡ false) ⊎ (b' < n) → Bounded t O C 0 i k n → Bounded t O C 0 i (suc k) n
  extends i k n b' l x h = both t O C 0 b' i k (suc k) n l h (elim x [ inl off ↦ one t O C b' k n off | inr lt ↦ opens t O C b' k n lt ])

  pub first_deep : (n : ℕ) (f : F) (i k : ℕ) → Begins rules t (suc (suc n)) f i (suc k) → Begins rules t (suc n) f i k → ((m : ℕ) → Begins rules t (suc n) f i m → m ≤ k) → FirstDeep t O C n i k
  first_deep n f i k x y z = go (true_or_false (member (t.kind k) O)) (level_to i k (b_le (suc n) f i k y))
    where
      h : Bounded t O C 0 i k n
      h = form_begins_bounded n f i k y

      no : Bounded t O C 0 i (suc k) n → ⊥
      no bounded = let l : suc k ≤ k = z (suc k) (form_begins_narrow n (suc (suc n)) f i (suc k) x bounded) in omega arith

      go : (member (t.kind k) O ≡ true) ⊎ (member (t.kind k) O ≡ false) → ((b' : ℕ) × Levels t O C 0 i b' k) → FirstDeep t O C n i k
      go (inr off) (b', l) = absurd (no (extends i k n b' l (inl off) h))
      go (inl at) (b', l) =
          let lt : b' < suc n = form_begins_bounded (suc n) f i (suc k) x k b' l (omega arith) at in
          elim (lt_or_le b' n) [
            | inl less ↦ absurd (no (extends i k n b' l (inr less) h))
            | inr le ↦ (h, subst (λ (c : ℕ). Levels t O C 0 i c k) (omega arith) l, at)
          ]

  -- The answer, with levels counted from the tokens.
  pub reads_deep : (n : ℕ) (f : F) (i : ℕ) (a : Answer V) → Reads rules t n f i a → ReadsDeep rules t O C n f i a
  reads_deep n f i (Got w j) r = ((suc n, r.0), r.1, r.2, form_derives_bounded n f i j w r.0)
  reads_deep n f i (Unexpected k) r = ((suc n, r.0), r.1, r.2, form_begins_bounded n f i k r.0)
  reads_deep n f i (TooDeep k) r = ((suc (suc n), r.0), first_deep n f i k r.0 r.1 r.2)
