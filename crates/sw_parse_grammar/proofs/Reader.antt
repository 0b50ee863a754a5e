-- The reader of a decided grammar is right.
use Rattle.std.proofs.Common.{◌≡◌, ℕ, zero, suc, ◌+◌, ◌-◌, ◌≤◌, ◌<◌, Bool, true, false, not, ◌&&◌, ◌||◌, ◌⊎◌, List, [], ◌++◌, inl, inr, refl, sym, ◌∙◌, ap, subst, arith, append-nil}
use Rattle.sw_parse_grammar.specs.Grammar.{Grammar, keep, skip, empty, ahead, seq, alt, many, sep, Item, group, unless, build, nullable, sure, is_none, first, more, decided, member, disjoint, when, null_at, Row, done, then, Text, DerivesIn, BeginsIn, Answer, Got, Unexpected, TooDeep, and_then, prepend, acted, repeat, repeat_sep, run, Meets}
use Rattle.sw_parse_grammar.proofs.Sets.{or_cases, and_both, apart, not_null, member_cases, when_both, not_false, none_of, without_both, only_none}
use Rattle.sw_parse_grammar.proofs.Laws.{derives_le, begins_le, begins_none, derives_begins, derives_null, begins_first, derives_more, starts, le_cases}

-- More levels derive and begin no less.
module _ {V F : Type 0} (t : Text V) (R S : F → ℕ → ℕ → List V → Type 0) (R' S' : F → ℕ → ℕ → Type 0)
    (lift : (f : F) (i j : ℕ) (u : List V) → R f i j u → S f i j u)
    (lift' : (f : F) (i m : ℕ) → R' f i m → S' f i m)
  where
    row_map : (g : Grammar V F) → ((i j : ℕ) (w : List V) → DerivesIn t R g i j w → DerivesIn t S g i j w) → {i j : ℕ} {w : List V} → Row (DerivesIn t R g) i j w → Row (DerivesIn t S g) i j w
    row_map g each done = done
    row_map g each (then {i} {k} {j} {u} {v} d r) = then (each i k u d) (row_map g each r)

    sep_map : (s : List ℕ) (g : Grammar V F) → ((i j : ℕ) (w : List V) → DerivesIn t R g i j w → DerivesIn t S g i j w) → {i j : ℕ} {w : List V} → Row (Item t s (DerivesIn t R g)) i j w → Row (Item t s (DerivesIn t S g)) i j w
    sep_map s g each done = done
    sep_map s g each (then {i} {k} {j} {u} {v} d r) = then (d.0, each (suc i) k u d.1) (sep_map s g each r)

    pub derives_map : (g : Grammar V F) (i j : ℕ) (w : List V) → DerivesIn t R g i j w → DerivesIn t S g i j w
    derives_map (keep s) i j w d = d
    derives_map (skip s) i j w d = d
    derives_map empty i j w d = d
    derives_map (ahead s) i j w d = d
    derives_map (seq a b) i j w (k, u, v, da, db, e) = (k, u, v, derives_map a i k u da, derives_map b k j v db, e)
    derives_map (alt a b) i j w (inl d) = inl (derives_map a i j w d)
    derives_map (alt a b) i j w (inr d) = inr (derives_map b i j w d)
    derives_map (many g) i j w d = row_map g (derives_map g) d
    derives_map (sep s g) i j w (k, r, x) = (k, sep_map s g (derives_map g) r, x)
    derives_map (group o f c) i j w (p, k, d, q, e) = (p, k, lift f (suc i) k w d, q, e)
    derives_map (unless s g) i j w d = (d.0, derives_map g i j w d.1)
    derives_map (build h g) i j w (u, d, e) = (u, derives_map g i j u d, e)

    pub begins_map : (g : Grammar V F) (i m : ℕ) → BeginsIn t R R' g i m → BeginsIn t S S' g i m
    begins_map (keep s) i m d = d
    begins_map (skip s) i m d = d
    begins_map empty i m d = d
    begins_map (ahead s) i m d = d
    begins_map (seq a b) i m (inl x) = inl (begins_map a i m x)
    begins_map (seq a b) i m (inr (k, u, d, x)) = inr (k, u, derives_map a i k u d, begins_map b k m x)
    begins_map (alt a b) i m (inl d) = inl (begins_map a i m d)
    begins_map (alt a b) i m (inr d) = inr (begins_map b i m d)
    begins_map (many g) i m (k, u, r, inl e) = (k, u, row_map g (derives_map g) r, inl e)
    begins_map (many g) i m (k, u, r, inr x) = (k, u, row_map g (derives_map g) r, inr (begins_map g k m x))
    begins_map (sep s g) i m (k, u, r, inl e) = (k, u, sep_map s g (derives_map g) r, inl e)
    begins_map (sep s g) i m (k, u, r, inr x) = (k, u, sep_map s g (derives_map g) r, inr (x.0, begins_map g (suc k) m x.1))
    begins_map (group o f c) i m (inl e) = inl e
    begins_map (group o f c) i m (inr (p, inl x)) = inr (p, inl (lift' f (suc i) m x))
    begins_map (group o f c) i m (inr (p, inr (k, u, d, q, e))) = inr (p, inr (k, u, lift f (suc i) k u d, q, e))
    begins_map (unless s g) i m (inl e) = inl e
    begins_map (unless s g) i m (inr x) = inr (x.0, begins_map g i m x.1)
    begins_map (build h g) i m x = begins_map g i m x

-- after the longest beginning of a, b goes on from there alone
module _ {V F : Type 0} (rules : F → Grammar V F) (t : Text V) (end : ℕ)
    -- with n levels, with one more, and with any number
    (dn d1 d : F → ℕ → ℕ → List V → Type 0) (bn b1 b : F → ℕ → ℕ → Type 0)
    (d_le : (f : F) (i j : ℕ) (u : List V) → d f i j u → i ≤ j)
    (b_le : (f : F) (i m : ℕ) → b f i m → i ≤ m)
    (b_none : (f : F) (i : ℕ) → b f i i)
    (d_begins : (f : F) (i j : ℕ) (u : List V) → d f i j u → b f i j)
    (dn_begins : (f : F) (i j : ℕ) (u : List V) → dn f i j u → bn f i j)
    (d_more : (f : F) (i j m : ℕ) (u : List V) → d f i j u → b f i m → j < m → member (t.kind j) (more (rules f)) ≡ true)
    (dn1 : (f : F) (i j : ℕ) (u : List V) → dn f i j u → d1 f i j u)
    (bn1 : (f : F) (i m : ℕ) → bn f i m → b1 f i m)
    (d1- : (f : F) (i j : ℕ) (u : List V) → d1 f i j u → d f i j u)
    (b1- : (f : F) (i m : ℕ) → b1 f i m → b f i m)
    (ins : F → ℕ → Answer V)
  where
    -- what is right of g at i
    abbrev pub Right : Grammar V F → ℕ → Answer V → Type 0
    Right g i a = Meets (DerivesIn t dn g i) (BeginsIn t dn bn g i) (BeginsIn t d1 b1 g i) (DerivesIn t d g i) (BeginsIn t d b g i) a

    n_d : (g : Grammar V F) (i j : ℕ) (w : List V) → DerivesIn t dn g i j w → DerivesIn t d g i j w
    n_d g i j w x = derives_map t d1 d b1 b d1- b1- g i j w (derives_map t dn d1 bn b1 dn1 bn1 g i j w x)

    n_b : (g : Grammar V F) (i m : ℕ) → BeginsIn t dn bn g i m → BeginsIn t d b g i m
    n_b g i m x = begins_map t d1 d b1 b d1- b1- g i m (begins_map t dn d1 bn b1 dn1 bn1 g i m x)

    -- a has its longest beginning at k; what b begins behind a whole text of a, it begins at k or not at all
    after_a : (a b' : Grammar V F) (i k : ℕ) → decided rules a ≡ true → disjoint (more a) (first b') ≡ true
        → BeginsIn t d b a i k → (k' m : ℕ) (u : List V) → k' < k → DerivesIn t d a i k' u → BeginsIn t d b b' k' m → m ≤ k'
    after_a a b' i k ok ap_ab x k' m u lt da y =
        elim (le_cases k' m (begins_le t d b d_le b_le b' k' m y)) [
          | inl l ↦ absurd (apart (t.kind k') (more a) (first b') ap_ab
              (derives_more rules t d b d_le b_le d_begins d_more a ok i k' k u da x lt)
              (begins_first rules t d b d_le b_le d_begins d_more b' k' m y l))
          | inr e ↦ omega arith
        ]

    seq_parts : (a b' : Grammar V F) → decided rules (seq a b') ≡ true
        → (decided rules a ≡ true) × (decided rules b' ≡ true) × (disjoint (more a) (first b') ≡ true) × (((sure a || not (nullable a)) || is_none (first b')) ≡ true)
    seq_parts a b' ok =
        let x = and_both (decided rules a && decided rules b') (disjoint (more a) (first b') && ((sure a || not (nullable a)) || is_none (first b'))) ok in
        let y = and_both (decided rules a) (decided rules b') x.0 in
        let z = and_both (disjoint (more a) (first b')) ((sure a || not (nullable a)) || is_none (first b')) x.1 in
        (y.0, y.1, z.0, z.1)

    null_D : (g : Grammar V F) (i : ℕ) → sure g ≡ true → (w : List V) × DerivesIn t d g i i w
    null_D (keep s) i e = absurd (cc)
    null_D (skip s) i e = absurd (cc)
    null_D empty i e = ([], (refl, refl))
    null_D (ahead s) i e = absurd (cc)
    null_D (seq a b') i e =
        let both = and_both (sure a) (sure b') e in
        let x = null_D a i both.0 in
        let y = null_D b' i both.1 in
        (x.0 ++ y.0, (i, x.0, y.0, x.1, y.1, refl))
    null_D (alt a b') i e =
        elim (or_cases (sure a) (sure b') e) [
          | inl p ↦ (let x = null_D a i p in (x.0, inl x.1))
          | inr p ↦ (let x = null_D b' i p in (x.0, inr x.1))
        ]
    null_D (many g) i e = ([], done)
    null_D (sep s g) i e = ([], (i, done, inl refl))
    null_D (group o f c) i e = absurd (cc)
    null_D (unless s g) i e = absurd (cc)
    null_D (build h g) i e = let x = null_D g i e in (h i i x.0, (x.0, x.1, refl))

    -- what may be nothing surely may, where something else can follow
    surely : (a b' : Grammar V F) (k : ℕ) → ((sure a || not (nullable a)) || is_none (first b')) ≡ true
        → nullable a ≡ true → member k (first b') ≡ true → sure a ≡ true
    surely a b' k e n at =
        elim (or_cases (sure a || not (nullable a)) (is_none (first b')) e) [
          | inl x ↦ elim (or_cases (sure a) (not (nullable a)) x) [ inl y ↦ y | inr y ↦ absurd (not_null (nullable a) y n) ]
          | inr x ↦ absurd (none_of k (first b') x at)
        ]

    -- each kind of first begins the grammar
    first_B : (g : Grammar V F) → decided rules g ≡ true → (i : ℕ) → member (t.kind i) (first g) ≡ true → BeginsIn t d b g i (suc i)
    first_B (keep s) ok i e = inr (e, refl)
    first_B (skip s) ok i e = inr (e, refl)
    first_B empty ok i e = absurd (cc)
    first_B (ahead s) ok i e = absurd (cc)
    first_B (seq a b') ok i e =
        let oks = seq_parts a b' ok in
        elim (member_cases (t.kind i) (first a) (when (nullable a) (first b')) e) [
          | inl p ↦ inl (first_B a oks.0 i p)
          | inr p ↦ (let both = when_both (t.kind i) (nullable a) (first b') p in
              let x = null_D a i (surely a b' (t.kind i) oks.3 both.0 both.1) in inr (i, x.0, x.1, first_B b' oks.1 i both.1))
        ]
    first_B (alt a b') ok i e =
        let oks = and_both (decided rules a && decided rules b') (disjoint (first a) (first b') && not (nullable a)) ok in
        let okab = and_both (decided rules a) (decided rules b') oks.0 in
        elim (member_cases (t.kind i) (first a) (first b') e) [ inl p ↦ inl (first_B a okab.0 i p) | inr p ↦ inr (first_B b' okab.1 i p) ]
    first_B (many g) ok i e =
        let oks0 = and_both (decided rules g && (disjoint (more g) (first g) && not (nullable g))) (not (member 0 (first g))) ok in
        let oks = and_both (decided rules g) (disjoint (more g) (first g) && not (nullable g)) oks0.0 in
        (i, [], done, inr (first_B g oks.0 i e))
    first_B (sep s g) ok i e = (i, [], done, inr (e, begins_none t d b g (suc i)))
    first_B (group o f c) ok i e = inr (e, inl (b_none f (suc i)))
    first_B (unless s g) ok i e = let r = without_both (t.kind i) s (first g) e in inr (r.0, first_B g (and_both (decided rules g) (not (nullable g)) ok).0 i r.1)
    first_B (build h g) ok i e = first_B g ok i e

    -- b' is read behind a
    seq_right : (a b' : Grammar V F) → decided rules a ≡ true → disjoint (more a) (first b') ≡ true
        → (i k : ℕ) (u : List V) (ans : Answer V) → Right a i (Got u k) → Right b' k ans → Right (seq a b') i (prepend u ans)
    seq_right a b' ok ap_ab i k u (Got w j) ra rb =
        let ba : BeginsIn t d b a i k = derives_begins t d b d_begins a i k u (n_d a i k u ra.0) in
        let lj : k ≤ j = derives_le t d b d_le b_le b' k j w (n_d b' k j w rb.0) in (
          (k, u, w, ra.0, rb.0, refl),
          (λ m x. elim x [
            | inl y ↦ omega (arith, ra.1 m y)
            | inr (k', u', d', y) ↦ elim (le_cases k' k (ra.1 k' (derives_begins t d b d_begins a i k' u' d'))) [
              | inl l ↦ omega (arith, after_a a b' i k ok ap_ab ba k' m u' l d' y)
              | inr e ↦ rb.1 m (subst (λ (z : ℕ). BeginsIn t d b b' z m) e y)
            ]
          ]),
          (λ v (k', u', v', da, db, e1).
              elim (le_cases k' k (ra.1 k' (derives_begins t d b d_begins a i k' u' da))) [
                | inl l ↦ absurd (omega (arith, after_a a b' i k ok ap_ab ba k' j u' l da (derives_begins t d b d_begins b' k' j v' db)))
                | inr e ↦ (
                    let eu = ra.2 u' (subst (λ (z : ℕ). DerivesIn t d a i z u') e da) in
                    let ev = rb.2 v' (subst (λ (z : ℕ). DerivesIn t d b' z j v') e db) in
                    cc)
              ]),
        )
    seq_right a b' ok ap_ab i k u (Unexpected j) ra rb =
        let ba : BeginsIn t d b a i k = derives_begins t d b d_begins a i k u (n_d a i k u ra.0) in
        let lj : k ≤ j = begins_le t d b d_le b_le b' k j (n_b b' k j rb.0) in (
          inr (k, u, ra.0, rb.0),
          (λ m x. elim x [
            | inl y ↦ omega (arith, ra.1 m y)
            | inr (k', u', d', y) ↦ elim (le_cases k' k (ra.1 k' (derives_begins t d b d_begins a i k' u' d'))) [
              | inl l ↦ omega (arith, after_a a b' i k ok ap_ab ba k' m u' l d' y)
              | inr e ↦ rb.1 m (subst (λ (z : ℕ). BeginsIn t d b b' z m) e y)
            ]
          ]),
          (λ v (k', u', v', da, db, e1).
              elim (le_cases k' k (ra.1 k' (derives_begins t d b d_begins a i k' u' da))) [
                | inl l ↦ absurd (omega (arith, after_a a b' i k ok ap_ab ba k' j u' l da (derives_begins t d b d_begins b' k' j v' db)))
                | inr e ↦ rb.2 v' (subst (λ (z : ℕ). DerivesIn t d b' z j v') e db)
              ]),
        )
    seq_right a b' ok ap_ab i k u (TooDeep j) ra rb =
        let ba : BeginsIn t d b a i k = derives_begins t d b d_begins a i k u (n_d a i k u ra.0) in
        let lj : k ≤ j = begins_le t d b d_le b_le b' k j (n_b b' k j rb.1) in (
          inr (k, u, derives_map t dn d1 bn b1 dn1 bn1 a i k u ra.0, rb.0),
          inr (k, u, ra.0, rb.1),
          (λ m x. elim x [
            | inl y ↦ omega (arith, ra.1 m (n_b a i m y))
            | inr (k', u', d', y) ↦ elim (le_cases k' k (ra.1 k' (derives_begins t d b d_begins a i k' u' (n_d a i k' u' d')))) [
              | inl l ↦ omega (arith, after_a a b' i k ok ap_ab ba k' m u' l (n_d a i k' u' d') (n_b b' k' m y))
              | inr e ↦ rb.2 m (subst (λ (z : ℕ). BeginsIn t dn bn b' z m) e y)
            ]
          ]),
        )

    -- a isn't read, so b' isn't reached
    seq_stop : (a b' : Grammar V F) → decided rules a ≡ true → disjoint (more a) (first b') ≡ true
        → (i k : ℕ) → Right a i (Unexpected k) → Right (seq a b') i (Unexpected k)
    seq_stop a b' ok ap_ab i k ra =
        let ba = n_b a i k ra.0 in
        let lt = λ (k' : ℕ) (u' : List V) (d' : DerivesIn t d a i k' u').
        elim (le_cases k' k (ra.1 k' (derives_begins t d b d_begins a i k' u' d'))) as (λ _. k' < k) [
          | inl l ↦ l
          | inr e ↦ absurd (ra.2 u' (subst (λ (z : ℕ). DerivesIn t d a i z u') e d'))
        ] in (
          inl ra.0,
          (λ m x. elim x [
            | inl y ↦ ra.1 m y
            | inr (k', u', d', y) ↦ omega (arith, lt k' u' d', after_a a b' i k ok ap_ab ba k' m u' (lt k' u' d') d' y)
          ]),
          (λ v (k', u', v', da, db, e1).
              omega (arith, lt k' u' da, after_a a b' i k ok ap_ab ba k' k u' (lt k' u' da) da (derives_begins t d b d_begins b' k' k v' db))),
        )

    seq_deep : (a b' : Grammar V F) → decided rules a ≡ true → disjoint (more a) (first b') ≡ true
        → (i k : ℕ) → Right a i (TooDeep k) → Right (seq a b') i (TooDeep k)
    seq_deep a b' ok ap_ab i k ra =
        let ba : BeginsIn t d b a i (suc k) = begins_map t d1 d b1 b d1- b1- a i (suc k) ra.0 in (
          inl ra.0,
          inl ra.1,
          (λ m x. elim x [
            | inl y ↦ ra.2 m y
            | inr (k', u', d', y) ↦ (
                let le : k' ≤ k = ra.2 k' (derives_begins t dn bn dn_begins a i k' u' d') in
                omega (arith, le, after_a a b' i (suc k) ok ap_ab ba k' m u' (omega (arith, le)) (n_d a i k' u' d') (n_b b' k' m y)))
          ]),
        )

    -- a begins at i, and b' doesn't
    alt_left : (a b' : Grammar V F) → decided rules a ≡ true → disjoint (first a) (first b') ≡ true → not (nullable a) ≡ true
        → (i : ℕ) (ans : Answer V) → member (t.kind i) (first a) ≡ true → Right a i ans → Right (alt a b') i ans
    alt_left a b' oka ap_ab nn i ans at r =
        let none_b = λ (m : ℕ) (x : BeginsIn t d b b' i m).
        elim (le_cases i m (begins_le t d b d_le b_le b' i m x)) as (λ _. m ≡ i) [
          | inl l ↦ absurd (apart (t.kind i) (first a) (first b') ap_ab at (begins_first rules t d b d_le b_le d_begins d_more b' i m x l))
          | inr e ↦ sym e
        ] in
        go ans none_b r
      where
        go : (ans : Answer V) → ((m : ℕ) → BeginsIn t d b b' i m → m ≡ i) → Right a i ans → Right (alt a b') i ans
        go (Got w j) none_b r = (
          inl r.0,
          (λ m x. elim x [ inl y ↦ r.1 m y | inr y ↦ omega (arith, none_b m y, derives_le t d b d_le b_le a i j w (n_d a i j w r.0)) ]),
          (λ v x. elim x [
            | inl y ↦ r.2 v y
            | inr y ↦ absurd (not_null (nullable a) nn (derives_null rules t d b d_le b_le d_begins d_more a i j w (n_d a i j w r.0) (none_b j (derives_begins t d b d_begins b' i j v y))))
          ]),
        )
        go (Unexpected k) none_b r = (
          inl r.0,
          (λ m x. elim x [ inl y ↦ r.1 m y | inr y ↦ omega (arith, none_b m y, begins_le t d b d_le b_le a i k (n_b a i k r.0)) ]),
          (λ v x. elim x [
            | inl y ↦ r.2 v y
            | inr y ↦ omega (arith, none_b k (derives_begins t d b d_begins b' i k v y), r.1 (suc i) (first_B a oka i at))
          ]),
        )
        go (TooDeep k) none_b r = (
          inl r.0,
          inl r.1,
          (λ m x. elim x [ inl y ↦ r.2 m y | inr y ↦ omega (arith, none_b m (n_b b' i m y), begins_le t d b d_le b_le a i k (n_b a i k r.1)) ]),
        )

    alt_right : (a b' : Grammar V F) → not (nullable a) ≡ true
        → (i : ℕ) (ans : Answer V) → member (t.kind i) (first a) ≡ false → Right b' i ans → Right (alt a b') i ans
    alt_right a b' nn i ans at r =
        let none_a = λ (m : ℕ) (x : BeginsIn t d b a i m).
        elim (le_cases i m (begins_le t d b d_le b_le a i m x)) as (λ _. m ≡ i) [
          | inl l ↦ (let y = begins_first rules t d b d_le b_le d_begins d_more a i m x l in absurd (cc))
          | inr e ↦ sym e
        ] in
        let no_a = λ (j : ℕ) (v : List V) (x : DerivesIn t d a i j v).
        let e = none_a j (derives_begins t d b d_begins a i j v x) in not_null (nullable a) nn (derives_null rules t d b d_le b_le d_begins d_more a i j v x e) in
        go ans none_a no_a r
      where
        go : (ans : Answer V) → ((m : ℕ) → BeginsIn t d b a i m → m ≡ i) → ((j : ℕ) (v : List V) → DerivesIn t d a i j v → ⊥) → Right b' i ans → Right (alt a b') i ans
        go (Got w j) none_a no_a r = (
          inr r.0,
          (λ m x. elim x [ inr y ↦ r.1 m y | inl y ↦ omega (arith, none_a m y, derives_le t d b d_le b_le b' i j w (n_d b' i j w r.0)) ]),
          (λ v x. elim x [ inr y ↦ r.2 v y | inl y ↦ absurd (no_a j v y) ]),
        )
        go (Unexpected k) none_a no_a r = (
          inr r.0,
          (λ m x. elim x [ inr y ↦ r.1 m y | inl y ↦ omega (arith, none_a m y, begins_le t d b d_le b_le b' i k (n_b b' i k r.0)) ]),
          (λ v x. elim x [ inr y ↦ r.2 v y | inl y ↦ no_a k v y ]),
        )
        go (TooDeep k) none_a no_a r = (
          inr r.0,
          inr r.1,
          (λ m x. elim x [ inr y ↦ r.2 m y | inl y ↦ omega (arith, none_a m (n_b a i m y), begins_le t d b d_le b_le b' i k (n_b b' i k r.1)) ]),
        )

    -- No item begins at i.
    many_none : (g : Grammar V F) → not (nullable g) ≡ true → (i : ℕ) → member (t.kind i) (first g) ≡ false → Right (many g) i (Got [] i)
    many_none g nn i at =
        let bound = λ (m : ℕ) (x : BeginsIn t d b (many g) i m).
        elim (le_cases i m (begins_le t d b d_le b_le (many g) i m x)) as (λ _. m ≤ i) [
          | inl l ↦ (let y = begins_first rules t d b d_le b_le d_begins d_more (many g) i m x l in absurd (cc))
          | inr e ↦ omega arith
        ] in
        (done, bound, (λ v x. same x refl))
      where
        same : {j : ℕ} {v : List V} → Row (DerivesIn t d g) i j v → j ≡ i → v ≡ []
        same done e = refl
        same (then {k = k} {u = u} {v = v} x r) e =
            let l1 : i ≤ k = derives_le t d b d_le b_le g i k u x in
            let l2 : k ≤ i = omega (arith, derives_le t d b d_le b_le (many g) k i v (subst (λ (z : ℕ). Row (DerivesIn t d g) k z v) e r)) in
            absurd (not_null (nullable g) nn (derives_null rules t d b d_le b_le d_begins d_more g i k u x (omega arith)))

    seq_of_many : (g : Grammar V F) {j : ℕ} {v : List V} (i : ℕ) → Row (DerivesIn t d g) i j v → i < j → DerivesIn t d (seq g (many g)) i j v
    seq_of_many g i done lt = absurd (omega arith)
    seq_of_many g i (then {k = k} {u = u} {v = v} x r) lt = (k, u, v, x, r, refl)

    many_of_seq : (R : F → ℕ → ℕ → List V → Type 0) (g : Grammar V F) (i j : ℕ) (v : List V) → DerivesIn t R (seq g (many g)) i j v → DerivesIn t R (many g) i j v
    many_of_seq R g i j v (k, u, w, x, r, e) = subst (λ (z : List V). Row (DerivesIn t R g) i j z) (sym e) (then x r)

    begins_of_seq : (R : F → ℕ → ℕ → List V → Type 0) (R' : F → ℕ → ℕ → Type 0) (g : Grammar V F) (i m : ℕ) → BeginsIn t R R' (seq g (many g)) i m → BeginsIn t R R' (many g) i m
    begins_of_seq R R' g i m (inl x) = (i, [], done, inr x)
    begins_of_seq R R' g i m (inr (k, u, d', (k2, u2, r, x))) = (k2, u ++ u2, then d' r, x)

    seq_of_begins : (R : F → ℕ → ℕ → List V → Type 0) (R' : F → ℕ → ℕ → Type 0) (g : Grammar V F) (i m : ℕ) → BeginsIn t R R' (many g) i m → i < m → BeginsIn t R R' (seq g (many g)) i m
    seq_of_begins R R' g i m (k, u, done, inl e) lt = absurd (omega arith)
    seq_of_begins R R' g i m (k, u, done, inr x) lt = inl x
    seq_of_begins R R' g i m (k, u, then {k = k1} {u = u1} {v = v1} d' r, x) lt = inr (k1, u1, d', (k, v1, r, x))

    -- An item begins at i, and then further ones.
    many_some : (g : Grammar V F) → decided rules g ≡ true → (i : ℕ) (ans : Answer V) → member (t.kind i) (first g) ≡ true → Right (seq g (many g)) i ans → Right (many g) i ans
    many_some g okg i (Got w j) at r =
        let lt : suc i ≤ j = r.1 (suc i) (inl (first_B g okg i at)) in (
          many_of_seq dn g i j w r.0,
          (λ m x. elim (le_cases i m (begins_le t d b d_le b_le (many g) i m x)) [ inl l ↦ r.1 m (seq_of_begins d b g i m x l) | inr e ↦ omega arith ]),
          (λ v x. r.2 v (seq_of_many g i x lt)),
        )
    many_some g okg i (Unexpected j) at r =
        let lt : suc i ≤ j = r.1 (suc i) (inl (first_B g okg i at)) in (
          begins_of_seq dn bn g i j r.0,
          (λ m x. elim (le_cases i m (begins_le t d b d_le b_le (many g) i m x)) [ inl l ↦ r.1 m (seq_of_begins d b g i m x l) | inr e ↦ omega arith ]),
          (λ v x. r.2 v (seq_of_many g i x lt)),
        )
    many_some g okg i (TooDeep j) at r =
        let le : i ≤ j = begins_le t d b d_le b_le (many g) i j (n_b (many g) i j (begins_of_seq dn bn g i j r.1)) in (
          begins_of_seq d1 b1 g i (suc j) r.0,
          begins_of_seq dn bn g i j r.1,
          (λ m x. elim (le_cases i m (begins_le t d b d_le b_le (many g) i m (n_b (many g) i m x))) [ inl l ↦ r.2 m (seq_of_begins dn bn g i m x l) | inr e ↦ omega arith ]),
        )

    -- No separator stands at i.
    sep_none : (s : List ℕ) (g : Grammar V F) (i : ℕ) → member (t.kind i) s ≡ false → Right (sep s g) i (Got [] i)
    sep_none s g i at =
        let bound = λ (m : ℕ) (x : BeginsIn t d b (sep s g) i m).
        elim (le_cases i m (begins_le t d b d_le b_le (sep s g) i m x)) as (λ _. m ≤ i) [
          | inl l ↦ (let y = begins_first rules t d b d_le b_le d_begins d_more (sep s g) i m x l in absurd (cc))
          | inr e ↦ omega arith
        ] in
        ((i, done, inl refl), bound, (λ v x. same v x))
      where
        same : (v : List V) → DerivesIn t d (sep s g) i i v → v ≡ []
        same v (k, done, x) = refl
        same v (k, then {k = k1} {u = u} {v = v1} d1 r, x) = let y = d1.0 in absurd (cc)

    -- A separator stands at i, and no item behind it.
    sep_last : (s : List ℕ) (g : Grammar V F) → not (nullable g) ≡ true → (i : ℕ) → member (t.kind i) s ≡ true → member (t.kind (suc i)) (first g) ≡ false → Right (sep s g) i (Got [] (suc i))
    sep_last s g nn i at off = ((i, done, inr (at, refl)), (λ m x. bound m x), (λ v x. same v x))
      where
        none : (k : ℕ) (u : List V) → DerivesIn t d g (suc i) k u → ⊥
        none k u x = let y = starts rules t d b d_le b_le d_begins d_more g nn (suc i) k u x in cc

        bound : (m : ℕ) → BeginsIn t d b (sep s g) i m → m ≤ suc i
        bound m (k, u, done, inl e) = omega arith
        bound m (k, u, done, inr y) =
            elim (le_cases (suc i) m (begins_le t d b d_le b_le g (suc i) m y.1)) [
              | inl l ↦ (let z = begins_first rules t d b d_le b_le d_begins d_more g (suc i) m y.1 l in absurd (cc))
              | inr e ↦ omega arith
            ]
        bound m (k, u, then {k = k1} {u = u1} d1 r, x) = absurd (none k1 u1 d1.1)

        same : (v : List V) → DerivesIn t d (sep s g) i (suc i) v → v ≡ []
        same v (k, done, x) = refl
        same v (k, then {k = k1} {u = u1} d1 r, x) = absurd (none k1 u1 d1.1)

    sep_of_seq : (R : F → ℕ → ℕ → List V → Type 0) (s : List ℕ) (g : Grammar V F) (i j : ℕ) (v : List V) → DerivesIn t R (seq (seq (skip s) g) (sep s g)) i j v → DerivesIn t R (sep s g) i j v
    sep_of_seq R s g i j v (k, u, w, (k0, u0, v0, (p, e0, e1), dg, e2), (kk, r, x), e) =
        let eu : v0 ≡ u = ap (λ (z : List V). z ++ v0) (sym e1) ∙ sym e2 in
        let dg1 = subst (λ (z : ℕ). DerivesIn t R g z k v0) e0 dg in
        let dg2 = subst (λ (z : List V). DerivesIn t R g (suc i) k z) eu dg1 in
        (kk, subst (λ (z : List V). Row (Item t s (DerivesIn t R g)) i kk z) (sym e) (then (p, dg2) r), x)

    seq_of_sep : (s : List ℕ) (g : Grammar V F) (i j : ℕ) (v : List V) → DerivesIn t d (sep s g) i j v → suc i < j → DerivesIn t d (seq (seq (skip s) g) (sep s g)) i j v
    seq_of_sep s g i j v (k, done, inl e) lt = absurd (omega arith)
    seq_of_sep s g i j v (k, done, inr e) lt = absurd (omega (arith, e.1))
    seq_of_sep s g i j v (kk, then {k = k} {u = u} {v = v1} d1 r, x) lt = (k, u, v1, (suc i, [], u, (d1.0, refl, refl), d1.1, refl), (kk, r, x), refl)

    sep_of_begins : (R : F → ℕ → ℕ → List V → Type 0) (R' : F → ℕ → ℕ → Type 0) (s : List ℕ) (g : Grammar V F) (i m : ℕ) → BeginsIn t R R' (seq (seq (skip s) g) (sep s g)) i m → BeginsIn t R R' (sep s g) i m
    sep_of_begins R R' s g i m (inl (inl (inl e))) = (i, [], done, inl e)
    sep_of_begins R R' s g i m (inl (inl (inr e))) = (i, [], done, inr (e.0, subst (λ (z : ℕ). BeginsIn t R R' g (suc i) z) (sym e.1) (begins_none t R R' g (suc i))))
    sep_of_begins R R' s g i m (inl (inr (k0, u0, e, y))) = (i, [], done, inr (e.0, subst (λ (z : ℕ). BeginsIn t R R' g z m) e.1 y))
    sep_of_begins R R' s g i m (inr (k, u, (k0, u0, v0, (p, e0, e1), dg, e2), (k2, u2, r, y))) =
        (k2, v0 ++ u2, then (p, subst (λ (z : ℕ). DerivesIn t R g z k v0) e0 dg) r, y)

    begins_of_sep : (R : F → ℕ → ℕ → List V → Type 0) (R' : F → ℕ → ℕ → Type 0) (s : List ℕ) (g : Grammar V F) (i m : ℕ) → BeginsIn t R R' (sep s g) i m → i < m → BeginsIn t R R' (seq (seq (skip s) g) (sep s g)) i m
    begins_of_sep R R' s g i m (k, u, done, inl e) lt = absurd (omega arith)
    begins_of_sep R R' s g i m (k, u, done, inr y) lt = inl (inr (suc i, [], (y.0, refl, refl), y.1))
    begins_of_sep R R' s g i m (k2, u2, then {k = k} {u = u} {v = v} d1 r, y) lt = inr (k, u, (suc i, [], u, (d1.0, refl, refl), d1.1, refl), (k2, v, r, y))

    sep_some : (s : List ℕ) (g : Grammar V F) → decided rules g ≡ true → (i : ℕ) (ans : Answer V) → member (t.kind i) s ≡ true → member (t.kind (suc i)) (first g) ≡ true
        → Right (seq (seq (skip s) g) (sep s g)) i ans → Right (sep s g) i ans
    sep_some s g okg i (Got w j) p at r =
        let lt : suc (suc i) ≤ j = r.1 (suc (suc i)) (inl (inr (suc i, [], (p, refl, refl), first_B g okg (suc i) at))) in (
          sep_of_seq dn s g i j w r.0,
          (λ m x. elim (le_cases i m (begins_le t d b d_le b_le (sep s g) i m x)) [ inl l ↦ r.1 m (begins_of_sep d b s g i m x l) | inr e ↦ omega arith ]),
          (λ v x. r.2 v (seq_of_sep s g i j v x lt)),
        )
    sep_some s g okg i (Unexpected j) p at r =
        let lt : suc (suc i) ≤ j = r.1 (suc (suc i)) (inl (inr (suc i, [], (p, refl, refl), first_B g okg (suc i) at))) in (
          sep_of_begins dn bn s g i j r.0,
          (λ m x. elim (le_cases i m (begins_le t d b d_le b_le (sep s g) i m x)) [ inl l ↦ r.1 m (begins_of_sep d b s g i m x l) | inr e ↦ omega arith ]),
          (λ v x. r.2 v (seq_of_sep s g i j v x lt)),
        )
    sep_some s g okg i (TooDeep j) p at r =
        let le : i ≤ j = begins_le t d b d_le b_le (sep s g) i j (n_b (sep s g) i j (sep_of_begins dn bn s g i j r.1)) in (
          sep_of_begins d1 b1 s g i (suc j) r.0,
          sep_of_begins dn bn s g i j r.1,
          (λ m x. elim (le_cases i m (begins_le t d b d_le b_le (sep s g) i m (n_b (sep s g) i m x))) [ inl l ↦ r.2 m (begins_of_sep dn bn s g i m x l) | inr e ↦ omega arith ]),
        )

    -- what is right of the form in brackets at i
    abbrev pub RightInside : F → ℕ → Answer V → Type 0
    RightInside f i (Got w k) = dn f (suc i) k w × ((m : ℕ) → b f (suc i) m → m ≤ k) × ((v : List V) → d f (suc i) k v → v ≡ w)
    RightInside f i (Unexpected k) = bn f (suc i) k × ((m : ℕ) → b f (suc i) m → m ≤ k) × ((v : List V) → d f (suc i) k v → ⊥)
    RightInside f i (TooDeep k) = b1 f (suc i) (suc k) × ((k ≡ i) ⊎ bn f (suc i) k) × ((m : ℕ) → bn f (suc i) m → m ≤ k)

    group_none : (o : List ℕ) (f : F) (c : List ℕ) (i : ℕ) → member (t.kind i) o ≡ false → Right (group o f c) i (Unexpected i)
    group_none o f c i e = (
      inl refl,
      (λ m x. elim x [ inl y ↦ omega arith | inr (p, y) ↦ absurd (cc) ]),
      (λ v (p, k, u, q, e1). cc),
    )

    group_closed : (o : List ℕ) (f : F) (c : List ℕ) → disjoint (more (rules f)) c ≡ true → (i k : ℕ) (w : List V)
        → member (t.kind i) o ≡ true → RightInside f i (Got w k) → member (t.kind k) c ≡ true → Right (group o f c) i (Got w (suc k))
    group_closed o f c ok i k w p r q = (
      (p, k, r.0, q, refl),
      (λ m x. elim x [
        | inl e ↦ omega (arith, d_le f (suc i) k w (d1- f (suc i) k w (dn1 f (suc i) k w r.0)))
        | inr (p2, inl y) ↦ omega (arith, r.1 m y)
        | inr (p2, inr (k2, u2, d2, q2, e2)) ↦ omega (arith, r.1 k2 (d_begins f (suc i) k2 u2 d2))
      ]),
      (λ v (p2, k2, d2, q2, e2). r.2 v (subst (λ (z : ℕ). d f (suc i) z v) (omega arith) d2)),
    )

    group_open : (o : List ℕ) (f : F) (c : List ℕ) → disjoint (more (rules f)) c ≡ true → (i k : ℕ) (w : List V)
        → member (t.kind i) o ≡ true → RightInside f i (Got w k) → member (t.kind k) c ≡ false → Right (group o f c) i (Unexpected k)
    group_open o f c ok i k w p r q =
        let bk : b f (suc i) k = d_begins f (suc i) k w (d1- f (suc i) k w (dn1 f (suc i) k w r.0)) in
        let no = λ (k2 : ℕ) (u2 : List V) (d2 : d f (suc i) k2 u2) (q2 : member (t.kind k2) c ≡ true).
        elim (le_cases k2 k (r.1 k2 (d_begins f (suc i) k2 u2 d2))) as (λ _. ⊥) [
          | inl l ↦ apart (t.kind k2) (more (rules f)) c ok (d_more f (suc i) k2 k u2 d2 bk l) q2
          | inr e ↦ (let q3 = subst (λ (z : ℕ). member (t.kind z) c ≡ true) e q2 in cc)
        ] in (
          inr (p, inl (dn_begins f (suc i) k w r.0)),
          (λ m x. elim x [
            | inl e ↦ omega (arith, b_le f (suc i) k bk)
            | inr (p2, inl y) ↦ r.1 m y
            | inr (p2, inr (k2, u2, d2, q2, e2)) ↦ absurd (no k2 u2 d2 q2)
          ]),
          (λ v (p2, k2, d2, q2, e2). no k2 v d2 q2),
        )

    group_stop : (o : List ℕ) (f : F) (c : List ℕ) → disjoint (more (rules f)) c ≡ true → (i k : ℕ)
        → member (t.kind i) o ≡ true → RightInside f i (Unexpected k) → Right (group o f c) i (Unexpected k)
    group_stop o f c ok i k p r =
        let bk : b f (suc i) k = b1- f (suc i) k (bn1 f (suc i) k r.0) in
        let no = λ (k2 : ℕ) (u2 : List V) (d2 : d f (suc i) k2 u2) (q2 : member (t.kind k2) c ≡ true).
        elim (le_cases k2 k (r.1 k2 (d_begins f (suc i) k2 u2 d2))) as (λ _. ⊥) [
          | inl l ↦ apart (t.kind k2) (more (rules f)) c ok (d_more f (suc i) k2 k u2 d2 bk l) q2
          | inr e ↦ r.2 u2 (subst (λ (z : ℕ). d f (suc i) z u2) e d2)
        ] in (
          inr (p, inl r.0),
          (λ m x. elim x [
            | inl e ↦ omega (arith, b_le f (suc i) k bk)
            | inr (p2, inl y) ↦ r.1 m y
            | inr (p2, inr (k2, u2, d2, q2, e2)) ↦ absurd (no k2 u2 d2 q2)
          ]),
          (λ v (p2, k2, d2, q2, e2). no k2 v d2 q2),
        )

    group_deep : (o : List ℕ) (f : F) (c : List ℕ) → disjoint (more (rules f)) c ≡ true → (i k : ℕ)
        → member (t.kind i) o ≡ true → RightInside f i (TooDeep k) → Right (group o f c) i (TooDeep k)
    group_deep o f c ok i k p r =
        let lt : i ≤ k = elim r.1 [ inl e ↦ omega arith | inr y ↦ omega (arith, b_le f (suc i) k (b1- f (suc i) k (bn1 f (suc i) k y))) ] in (
          inr (p, inl r.0),
          elim r.1 [ inl e ↦ inl e | inr y ↦ inr (p, inl y) ],
          (λ m x. elim x [
            | inl e ↦ omega (arith, lt)
            | inr (p2, inl y) ↦ r.2 m y
            | inr (p2, inr (k2, u2, d2, q2, e2)) ↦ (
                let le : k2 ≤ k = r.2 k2 (dn_begins f (suc i) k2 u2 d2) in
                absurd (apart (t.kind k2) (more (rules f)) c ok
                (d_more f (suc i) k2 (suc k) u2 (d1- f (suc i) k2 u2 (dn1 f (suc i) k2 u2 d2)) (b1- f (suc i) (suc k) r.0) (omega (arith, le))) q2))
          ]),
        )

    module _ (past : (i : ℕ) → end ≤ i → t.kind i ≡ 0) (inside_right : (f : F) (i : ℕ) → RightInside f i (ins f i)) where
      many_right : (g : Grammar V F) → decided rules (many g) ≡ true → ((i : ℕ) → Right g i (run t end ins g i))
          → (n i : ℕ) → end < n + i → Right (many g) i (repeat (λ k. member (t.kind k) (first g)) (run t end ins g) n i)
      many_right g ok each zero i le =
          let oks0 = and_both (decided rules g && (disjoint (more g) (first g) && not (nullable g))) (not (member 0 (first g))) ok in
          let oks = and_both (decided rules g) (disjoint (more g) (first g) && not (nullable g)) oks0.0 in
          let ok2 = and_both (disjoint (more g) (first g)) (not (nullable g)) oks.1 in
          many_none g ok2.1 i (subst (λ (z : ℕ). member z (first g) ≡ false) (sym (past i (omega arith))) (not_false (member 0 (first g)) oks0.1))
      many_right g ok each (suc n) i le =
          let oks0 = and_both (decided rules g && (disjoint (more g) (first g) && not (nullable g))) (not (member 0 (first g))) ok in
          let oks = and_both (decided rules g) (disjoint (more g) (first g) && not (nullable g)) oks0.0 in
          let ok2 = and_both (disjoint (more g) (first g)) (not (nullable g)) oks.1 in
          choice oks.0 ok2.0 ok2.1 (λ k l. many_right g ok each n k l) (member (t.kind i) (first g)) refl
        where
          chain : decided rules g ≡ true → disjoint (more g) (first g) ≡ true → not (nullable g) ≡ true
              → ((k : ℕ) → end < n + k → Right (many g) k (repeat (λ k. member (t.kind k) (first g)) (run t end ins g) n k))
              → (x : Answer V) → Right g i x
              → Right (seq g (many g)) i (and_then x (λ u j. prepend u (repeat (λ k. member (t.kind k) (first g)) (run t end ins g) n j)))
          chain okg ap_g nn later (Got u k) r =
              seq_right g (many g) okg ap_g i k u _ r (later k
              (let l : i ≤ k = derives_le t d b d_le b_le g i k u (n_d g i k u r.0) in
              elim (le_cases i k l) [
                | inl lt ↦ omega arith
                | inr e ↦ absurd (not_null (nullable g) nn (derives_null rules t d b d_le b_le d_begins d_more g i k u (n_d g i k u r.0) (sym e)))
              ]))
          chain okg ap_g nn later (Unexpected k) r = seq_stop g (many g) okg ap_g i k r
          chain okg ap_g nn later (TooDeep k) r = seq_deep g (many g) okg ap_g i k r

          choice : decided rules g ≡ true → disjoint (more g) (first g) ≡ true → not (nullable g) ≡ true
              → ((k : ℕ) → end < n + k → Right (many g) k (repeat (λ k. member (t.kind k) (first g)) (run t end ins g) n k))
              → (x : Bool) → member (t.kind i) (first g) ≡ x
              → Right (many g) i (elim x [ true ↦ and_then (run t end ins g i) (λ u j. prepend u (repeat (λ k. member (t.kind k) (first g)) (run t end ins g) n j)) | false ↦ Got [] i ])
          choice okg ap_g nn later true e = many_some g okg i _ e (chain okg ap_g nn later (run t end ins g i) (each i))
          choice okg ap_g nn later false e = many_none g nn i e

      skip_choice : (s : List ℕ) (i : ℕ) (x : Bool) → member (t.kind i) s ≡ x → Right (skip s) i (elim x [ true ↦ Got [] (suc i) | false ↦ Unexpected i ])
      skip_choice s i true e = ((e, refl, refl), (λ m x. elim x [ inl y ↦ omega arith | inr y ↦ omega (arith, y.1) ]), (λ v x. x.2))
      skip_choice s i false e = (inl refl, (λ m x. elim x [ inl y ↦ omega arith | inr y ↦ (let z = y.0 in absurd (cc)) ]), (λ v x. let z = x.0 in cc))

      item_decided : (s : List ℕ) (g : Grammar V F) → decided rules g ≡ true → decided rules (seq (skip s) g) ≡ true
      item_decided s g ok = rw ok refl

      item_apart : (s : List ℕ) (g : Grammar V F) → disjoint (more g) s ≡ true → not (nullable g) ≡ true → disjoint (more (seq (skip s) g)) s ≡ true
      item_apart s g ap_g nn = subst (λ (x : List ℕ). disjoint (more g ++ x) s ≡ true) (sym (only_none (null_at g))) (subst (λ (x : List ℕ). disjoint x s ≡ true) (sym (append-nil (more g))) ap_g)

      item_right : (s : List ℕ) (g : Grammar V F) → decided rules g ≡ true → (i : ℕ) → member (t.kind i) s ≡ true → (x : Answer V) → Right g (suc i) x → Right (seq (skip s) g) i (prepend [] x)
      item_right s g okg i p x r = seq_right (skip s) g refl refl i (suc i) [] x (skip_choice s i true p) r

      sep_right : (s : List ℕ) (g : Grammar V F) → decided rules (sep s g) ≡ true → ((i : ℕ) → Right g i (run t end ins g i))
          → (n i : ℕ) → end < n + i → Right (sep s g) i (repeat_sep (λ k. member (t.kind k) s) (λ k. member (t.kind k) (first g)) (run t end ins g) n i)
      sep_right s g ok each zero i le =
          let oks0 = and_both (decided rules g && (disjoint (more g) s && not (nullable g))) (not (member 0 s)) ok in
          sep_none s g i (subst (λ (z : ℕ). member z s ≡ false) (sym (past i (omega arith))) (not_false (member 0 s) oks0.1))
      sep_right s g ok each (suc n) i le =
          let oks0 = and_both (decided rules g && (disjoint (more g) s && not (nullable g))) (not (member 0 s)) ok in
          let oks = and_both (decided rules g) (disjoint (more g) s && not (nullable g)) oks0.0 in
          let ok2 = and_both (disjoint (more g) s) (not (nullable g)) oks.1 in
          choice oks.0 ok2.0 ok2.1 (λ k l. sep_right s g ok each n k l) (member (t.kind i) s) refl (member (t.kind (suc i)) (first g)) refl
        where
          chain : decided rules g ≡ true → disjoint (more g) s ≡ true → not (nullable g) ≡ true
              → ((k : ℕ) → end < n + k → Right (sep s g) k (repeat_sep (λ k. member (t.kind k) s) (λ k. member (t.kind k) (first g)) (run t end ins g) n k))
              → member (t.kind i) s ≡ true → (x : Answer V) → Right g (suc i) x
              → Right (seq (seq (skip s) g) (sep s g)) i (and_then x (λ u j. prepend u (repeat_sep (λ k. member (t.kind k) s) (λ k. member (t.kind k) (first g)) (run t end ins g) n j)))
          chain okg ap_g nn later p (Got u k) r =
              let l : suc i ≤ k = derives_le t d b d_le b_le g (suc i) k u (n_d g (suc i) k u r.0) in
              seq_right (seq (skip s) g) (sep s g) (item_decided s g okg) (item_apart s g ap_g nn) i k u _ (item_right s g okg i p (Got u k) r) (later k (omega arith))
          chain okg ap_g nn later p (Unexpected k) r = seq_stop (seq (skip s) g) (sep s g) (item_decided s g okg) (item_apart s g ap_g nn) i k (item_right s g okg i p (Unexpected k) r)
          chain okg ap_g nn later p (TooDeep k) r = seq_deep (seq (skip s) g) (sep s g) (item_decided s g okg) (item_apart s g ap_g nn) i k (item_right s g okg i p (TooDeep k) r)

          choice : decided rules g ≡ true → disjoint (more g) s ≡ true → not (nullable g) ≡ true
              → ((k : ℕ) → end < n + k → Right (sep s g) k (repeat_sep (λ k. member (t.kind k) s) (λ k. member (t.kind k) (first g)) (run t end ins g) n k))
              → (x : Bool) → member (t.kind i) s ≡ x → (y : Bool) → member (t.kind (suc i)) (first g) ≡ y
              → Right (sep s g) i (elim x [
                | true ↦ elim y [ true ↦ and_then (run t end ins g (suc i)) (λ u j. prepend u (repeat_sep (λ k. member (t.kind k) s) (λ k. member (t.kind k) (first g)) (run t end ins g) n j)) | false ↦ Got [] (suc i) ]
                | false ↦ Got [] i
              ])
          choice okg ap_g nn later false e y e2 = sep_none s g i e
          choice okg ap_g nn later true e false e2 = sep_last s g nn i e e2
          choice okg ap_g nn later true e true e2 = sep_some s g okg i _ e e2 (chain okg ap_g nn later e (run t end ins g (suc i)) (each (suc i)))

      seq_chain : (a b' : Grammar V F) → decided rules a ≡ true → disjoint (more a) (first b') ≡ true
          → ((i : ℕ) → Right b' i (run t end ins b' i)) → (i : ℕ) (x : Answer V) → Right a i x
          → Right (seq a b') i (and_then x (λ u j. prepend u (run t end ins b' j)))
      seq_chain a b' ok ap_ab each i (Got u k) r = seq_right a b' ok ap_ab i k u _ r (each k)
      seq_chain a b' ok ap_ab each i (Unexpected k) r = seq_stop a b' ok ap_ab i k r
      seq_chain a b' ok ap_ab each i (TooDeep k) r = seq_deep a b' ok ap_ab i k r

      alt_choice : (a b' : Grammar V F) → decided rules a ≡ true → disjoint (first a) (first b') ≡ true → not (nullable a) ≡ true → (i : ℕ)
          → Right a i (run t end ins a i) → Right b' i (run t end ins b' i) → (x : Bool) → member (t.kind i) (first a) ≡ x
          → Right (alt a b') i (elim x [ true ↦ run t end ins a i | false ↦ run t end ins b' i ])
      alt_choice a b' oka ap_ab nn i ra rb true e = alt_left a b' oka ap_ab nn i _ e ra
      alt_choice a b' oka ap_ab nn i ra rb false e = alt_right a b' nn i _ e rb

      tok_choice : (s : List ℕ) (i : ℕ) (x : Bool) → member (t.kind i) s ≡ x → Right (keep s) i (elim x [ true ↦ Got (t.kept i) (suc i) | false ↦ Unexpected i ])
      tok_choice s i true e = ((e, refl, refl), (λ m x. elim x [ inl y ↦ omega arith | inr y ↦ omega (arith, y.1) ]), (λ v x. x.2))
      tok_choice s i false e = (inl refl, (λ m x. elim x [ inl y ↦ omega arith | inr y ↦ (let z = y.0 in absurd (cc)) ]), (λ v x. let z = x.0 in cc))

      ahead_choice : (s : List ℕ) (i : ℕ) (x : Bool) → member (t.kind i) s ≡ x → Right (ahead s) i (elim x [ true ↦ Got [] i | false ↦ Unexpected i ])
      ahead_choice s i true e = ((e, refl, refl), (λ m x. omega arith), (λ v x. x.2))
      ahead_choice s i false e = (refl, (λ m x. omega arith), (λ v x. let z = x.0 in cc))

      group_choice : (o : List ℕ) (f : F) (c : List ℕ) → disjoint (more (rules f)) c ≡ true → (i : ℕ) (x : Bool) → member (t.kind i) o ≡ x
          → Right (group o f c) i (elim x [
            | true ↦ and_then (ins f i) (λ u k. elim (member (t.kind k) c) [ true ↦ Got u (suc k) | false ↦ Unexpected k ])
            | false ↦ Unexpected i
          ])
      group_choice o f c ok i false e = group_none o f c i e
      group_choice o f c ok i true e = behind (ins f i) (inside_right f i)
        where
          closing : (w : List V) (k : ℕ) → RightInside f i (Got w k) → (y : Bool) → member (t.kind k) c ≡ y → Right (group o f c) i (elim y [ true ↦ Got w (suc k) | false ↦ Unexpected k ])
          closing w k r true q = group_closed o f c ok i k w e r q
          closing w k r false q = group_open o f c ok i k w e r q

          behind : (y : Answer V) → RightInside f i y → Right (group o f c) i (and_then y (λ u k. elim (member (t.kind k) c) [ true ↦ Got u (suc k) | false ↦ Unexpected k ]))
          behind (Got w k) r = closing w k r (member (t.kind k) c) refl
          behind (Unexpected k) r = group_stop o f c ok i k e r
          behind (TooDeep k) r = group_deep o f c ok i k e r

      unless_choice : (s : List ℕ) (g : Grammar V F) (i : ℕ) → Right g i (run t end ins g i) → (x : Bool) → member (t.kind i) s ≡ x
          → Right (unless s g) i (elim x [ true ↦ Unexpected i | false ↦ run t end ins g i ])
      unless_choice s g i r true e = (inl refl, (λ m x. elim x [ inl y ↦ omega arith | inr y ↦ (let z = y.0 in absurd (cc)) ]), (λ v x. let z = x.0 in cc))
      unless_choice s g i r false e = go (run t end ins g i) r
        where
          go : (a : Answer V) → Right g i a → Right (unless s g) i a
          go (Got w j) r = ((e, r.0), (λ m x. elim x [ inl y ↦ omega (arith, derives_le t d b d_le b_le g i j w (n_d g i j w r.0)) | inr y ↦ r.1 m y.1 ]), (λ v x. r.2 v x.1))
          go (Unexpected k) r = (inr (e, r.0), (λ m x. elim x [ inl y ↦ omega (arith, begins_le t d b d_le b_le g i k (n_b g i k r.0)) | inr y ↦ r.1 m y.1 ]), (λ v x. r.2 v x.1))
          go (TooDeep k) r = (inr (e, r.0), inr (e, r.1), (λ m x. elim x [ inl y ↦ omega (arith, begins_le t d b d_le b_le g i k (n_b g i k r.1)) | inr y ↦ r.2 m y.1 ]))

      act_right : (h : ℕ → ℕ → List V → List V) (g : Grammar V F) (i : ℕ) (x : Answer V) → Right g i x → Right (build h g) i (acted (h i) x)
      act_right h g i (Got w j) r = ((w, r.0, refl), r.1, (λ v (u, y, e). e ∙ ap (h i j) (r.2 u y)))
      act_right h g i (Unexpected k) r = (r.0, r.1, (λ v (u, y, e). r.2 u y))
      act_right h g i (TooDeep k) r = r

      pub run_right : (g : Grammar V F) → decided rules g ≡ true → (i : ℕ) → Right g i (run t end ins g i)
      run_right (keep s) ok i = tok_choice s i (member (t.kind i) s) refl
      run_right (skip s) ok i = skip_choice s i (member (t.kind i) s) refl
      run_right empty ok i = ((refl, refl), (λ m x. omega arith), (λ v x. x.1))
      run_right (ahead s) ok i = ahead_choice s i (member (t.kind i) s) refl
      run_right (seq a b') ok i =
          let oks = seq_parts a b' ok in
          seq_chain a b' oks.0 oks.2 (run_right b' oks.1) i (run t end ins a i) (run_right a oks.0 i)
      run_right (alt a b') ok i =
          let oks = and_both (decided rules a && decided rules b') (disjoint (first a) (first b') && not (nullable a)) ok in
          let okab = and_both (decided rules a) (decided rules b') oks.0 in
          let ok2 = and_both (disjoint (first a) (first b')) (not (nullable a)) oks.1 in
          alt_choice a b' okab.0 ok2.0 ok2.1 i (run_right a okab.0 i) (run_right b' okab.1 i) (member (t.kind i) (first a)) refl
      run_right (many g) ok i =
          let oks0 = and_both (decided rules g && (disjoint (more g) (first g) && not (nullable g))) (not (member 0 (first g))) ok in
          let oks = and_both (decided rules g) (disjoint (more g) (first g) && not (nullable g)) oks0.0 in
          many_right g ok (run_right g oks.0) (suc (end - i)) i (omega arith)
      run_right (sep s g) ok i =
          let oks0 = and_both (decided rules g && (disjoint (more g) s && not (nullable g))) (not (member 0 s)) ok in
          let oks = and_both (decided rules g) (disjoint (more g) s && not (nullable g)) oks0.0 in
          sep_right s g ok (run_right g oks.0) (suc (end - i)) i (omega arith)
      run_right (group o f c) ok i = group_choice o f c ok i (member (t.kind i) o) refl
      run_right (unless s g) ok i = unless_choice s g i (run_right g (and_both (decided rules g) (not (nullable g)) ok).0 i) (member (t.kind i) s) refl
      run_right (build h g) ok i = act_right h g i (run t end ins g i) (run_right g ok i)
