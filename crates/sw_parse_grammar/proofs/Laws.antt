-- What one kind of token tells.
use Rattle.std.proofs.Common.{◌≡◌, ℕ, suc, ◌≤◌, ◌<◌, true, not, ◌&&◌, ◌||◌, ◌⊎◌, List, [], ◌++◌, inl, inr, refl, sym, subst, arith}
use Rattle.sw_parse_grammar.specs.Grammar.{Grammar, keep, skip, empty, ahead, seq, alt, many, sep, Item, group, unless, build, nullable, sure, is_none, first, more, decided, member, disjoint, when, only, allows, null_at, Row, done, then, Text, DerivesIn, BeginsIn}
use Rattle.sw_parse_grammar.proofs.Sets.{or_left, or_right, and_both, member_left, member_right, member_when, member_only, allows_both, allows_left, allows_right, member_without, apart, not_null}

-- a text never ends before it begins
module _ {V F : Type 0} (t : Text V) (inner : F → ℕ → ℕ → List V → Type 0) (begun : F → ℕ → ℕ → Type 0)
    (inner_le : (f : F) (i j : ℕ) (u : List V) → inner f i j u → i ≤ j)
    (begun_le : (f : F) (i m : ℕ) → begun f i m → i ≤ m)
  where
    row_le : (g : Grammar V F) → ((i j : ℕ) (w : List V) → DerivesIn t inner g i j w → i ≤ j) → {i j : ℕ} {w : List V} → Row (DerivesIn t inner g) i j w → i ≤ j
    row_le g each done = omega arith
    row_le g each (then {i} {k} {j} {u} {v} d r) = omega (arith, each i k u d, row_le g each r)

    pub sep_le : (s : List ℕ) (g : Grammar V F) → ((i j : ℕ) (w : List V) → DerivesIn t inner g i j w → i ≤ j) → {i j : ℕ} {w : List V} → Row (Item t s (DerivesIn t inner g)) i j w → i ≤ j
    sep_le s g each done = omega arith
    sep_le s g each (then {i} {k} {j} {u} {v} d r) = omega (arith, each (suc i) k u d.1, sep_le s g each r)

    pub derives_le : (g : Grammar V F) (i j : ℕ) (w : List V) → DerivesIn t inner g i j w → i ≤ j
    derives_le (keep s) i j w d = omega (arith, d.1)
    derives_le (skip s) i j w d = omega (arith, d.1)
    derives_le empty i j w d = omega (arith, d.0)
    derives_le (ahead s) i j w d = omega (arith, d.1)
    derives_le (seq a b) i j w (k, u, v, da, db, e) = omega (arith, derives_le a i k u da, derives_le b k j v db)
    derives_le (alt a b) i j w (inl d) = derives_le a i j w d
    derives_le (alt a b) i j w (inr d) = derives_le b i j w d
    derives_le (many g) i j w d = row_le g (derives_le g) d
    derives_le (sep s g) i j w (k, r, inl e) = omega (arith, sep_le s g (derives_le g) r)
    derives_le (sep s g) i j w (k, r, inr e) = omega (arith, e.1, sep_le s g (derives_le g) r)
    derives_le (group o f c) i j w (p, k, d, q, e) = omega (arith, inner_le f (suc i) k w d)
    derives_le (unless s g) i j w d = derives_le g i j w d.1
    derives_le (build h g) i j w (u, d, e) = derives_le g i j u d

    pub begins_le : (g : Grammar V F) (i m : ℕ) → BeginsIn t inner begun g i m → i ≤ m
    begins_le (keep s) i m (inl e) = omega arith
    begins_le (keep s) i m (inr e) = omega (arith, e.1)
    begins_le (skip s) i m (inl e) = omega arith
    begins_le (skip s) i m (inr e) = omega (arith, e.1)
    begins_le empty i m e = omega arith
    begins_le (ahead s) i m e = omega arith
    begins_le (seq a b) i m (inl x) = begins_le a i m x
    begins_le (seq a b) i m (inr (k, u, d, x)) = omega (arith, derives_le a i k u d, begins_le b k m x)
    begins_le (alt a b) i m (inl x) = begins_le a i m x
    begins_le (alt a b) i m (inr x) = begins_le b i m x
    begins_le (many g) i m (k, u, r, inl e) = omega (arith, row_le g (derives_le g) r)
    begins_le (many g) i m (k, u, r, inr x) = omega (arith, row_le g (derives_le g) r, begins_le g k m x)
    begins_le (sep s g) i m (k, u, r, inl e) = omega (arith, sep_le s g (derives_le g) r)
    begins_le (sep s g) i m (k, u, r, inr x) = omega (arith, sep_le s g (derives_le g) r, begins_le g (suc k) m x.1)
    begins_le (group o f c) i m (inl e) = omega arith
    begins_le (group o f c) i m (inr (p, inl x)) = omega (arith, begun_le f (suc i) m x)
    begins_le (group o f c) i m (inr (p, inr (k, u, d, q, e))) = omega (arith, inner_le f (suc i) k u d)
    begins_le (unless s g) i m (inl e) = omega arith
    begins_le (unless s g) i m (inr x) = begins_le g i m x.1
    begins_le (build h g) i m x = begins_le g i m x

pub order3 : (a b : ℕ) → (a < b) ⊎ ((a ≡ b) ⊎ (b < a))
order3 a b = grind arith

pub le_cases : (a b : ℕ) → a ≤ b → (a < b) ⊎ (a ≡ b)
le_cases a b h = grind arith

-- no token at all begins each grammar
pub begins_none : {V F : Type 0} (t : Text V) (R : F → ℕ → ℕ → List V → Type 0) (R' : F → ℕ → ℕ → Type 0) (g : Grammar V F) (i : ℕ) → BeginsIn t R R' g i i
begins_none t R R' (keep s) i = inl refl
begins_none t R R' (skip s) i = inl refl
begins_none t R R' empty i = refl
begins_none t R R' (ahead s) i = refl
begins_none t R R' (seq a b) i = inl (begins_none t R R' a i)
begins_none t R R' (alt a b) i = inl (begins_none t R R' a i)
begins_none t R R' (many g) i = (i, [], done, inl refl)
begins_none t R R' (sep s g) i = (i, [], done, inl refl)
begins_none t R R' (group o f c) i = inl refl
begins_none t R R' (unless s g) i = inl refl
begins_none t R R' (build h g) i = begins_none t R R' g i

-- what derives also begins
module _ {V F : Type 0} (t : Text V) (inner : F → ℕ → ℕ → List V → Type 0) (begun : F → ℕ → ℕ → Type 0)
    (inner_begins : (f : F) (i j : ℕ) (u : List V) → inner f i j u → begun f i j)
  where
    pub derives_begins : (g : Grammar V F) (i j : ℕ) (w : List V) → DerivesIn t inner g i j w → BeginsIn t inner begun g i j
    derives_begins (keep s) i j w d = inr (d.0, d.1)
    derives_begins (skip s) i j w d = inr (d.0, d.1)
    derives_begins empty i j w d = d.0
    derives_begins (ahead s) i j w d = d.1
    derives_begins (seq a b) i j w (k, u, v, da, db, e) = inr (k, u, da, derives_begins b k j v db)
    derives_begins (alt a b) i j w (inl d) = inl (derives_begins a i j w d)
    derives_begins (alt a b) i j w (inr d) = inr (derives_begins b i j w d)
    derives_begins (many g) i j w d = (j, w, d, inl refl)
    derives_begins (sep s g) i j w (k, r, inl e) = (k, w, r, inl e)
    derives_begins (sep s g) i j w (k, r, inr e) = (k, w, r, inr (e.0, subst (λ (z : ℕ). BeginsIn t inner begun g (suc k) z) (sym e.1) (begins_none t inner begun g (suc k))))
    derives_begins (group o f c) i j w (p, k, d, q, e) = inr (p, inr (k, w, d, q, e))
    derives_begins (unless s g) i j w d = inr (d.0, derives_begins g i j w d.1)
    derives_begins (build h g) i j w (u, d, e) = derives_begins g i j u d

module _ {V F : Type 0} (rules : F → Grammar V F) (t : Text V) (inner : F → ℕ → ℕ → List V → Type 0) (begun : F → ℕ → ℕ → Type 0)
    (inner_le : (f : F) (i j : ℕ) (u : List V) → inner f i j u → i ≤ j)
    (begun_le : (f : F) (i m : ℕ) → begun f i m → i ≤ m)
    (inner_begins : (f : F) (i j : ℕ) (u : List V) → inner f i j u → begun f i j)
    (inner_more : (f : F) (i j m : ℕ) (u : List V) → inner f i j u → begun f i m → j < m → member (t.kind j) (more (rules f)) ≡ true)
  where
    -- nothing is read only where that is allowed
    pub derives_null : (g : Grammar V F) (i j : ℕ) (w : List V) → DerivesIn t inner g i j w → j ≡ i → nullable g ≡ true
    derives_null (keep s) i j w d e = absurd (omega (arith, d.1))
    derives_null (skip s) i j w d e = absurd (omega (arith, d.1))
    derives_null empty i j w d e = refl
    derives_null (ahead s) i j w d e = refl
    derives_null (seq a b) i j w (k, u, v, da, db, e1) e =
        let la : i ≤ k = derives_le t inner begun inner_le begun_le a i k u da in
        let lb : k ≤ j = derives_le t inner begun inner_le begun_le b k j v db in
        rw (derives_null a i k u da (omega arith)) (derives_null b k j v db (omega arith))
    derives_null (alt a b) i j w (inl d) e = or_left (nullable a) (nullable b) (derives_null a i j w d e)
    derives_null (alt a b) i j w (inr d) e = or_right (nullable a) (nullable b) (derives_null b i j w d e)
    derives_null (many g) i j w d e = refl
    derives_null (sep s g) i j w d e = refl
    derives_null (group o f c) i j w (p, k, d, q, e1) e = absurd (omega (arith, inner_le f (suc i) k w d))
    derives_null (unless s g) i j w d e = derives_null g i j w d.1 e
    derives_null (build h g) i j w (u, d, e1) e = derives_null g i j u d e

    -- and before which token
    pub derives_null_at : (g : Grammar V F) (i j : ℕ) (w : List V) → DerivesIn t inner g i j w → j ≡ i → allows (t.kind i) (null_at g) ≡ true
    derives_null_at (keep s) i j w d e = absurd (omega (arith, d.1))
    derives_null_at (skip s) i j w d e = absurd (omega (arith, d.1))
    derives_null_at empty i j w d e = refl
    derives_null_at (ahead s) i j w d e = d.0
    derives_null_at (seq a b) i j w (k, u, v, da, db, e1) e =
        let la : i ≤ k = derives_le t inner begun inner_le begun_le a i k u da in
        let lb : k ≤ j = derives_le t inner begun inner_le begun_le b k j v db in
        let at_i : k ≡ i = omega arith in
        allows_both (t.kind i) (null_at a) (null_at b) (derives_null_at a i k u da at_i)
        (subst (λ (x : ℕ). allows (t.kind x) (null_at b) ≡ true) at_i (derives_null_at b k j v db (omega arith)))
    derives_null_at (alt a b) i j w (inl d) e = allows_left (t.kind i) (null_at a) (null_at b) (derives_null_at a i j w d e)
    derives_null_at (alt a b) i j w (inr d) e = allows_right (t.kind i) (null_at a) (null_at b) (derives_null_at b i j w d e)
    derives_null_at (many g) i j w d e = refl
    derives_null_at (sep s g) i j w d e = refl
    derives_null_at (group o f c) i j w (p, k, d, q, e1) e = absurd (omega (arith, inner_le f (suc i) k w d))
    derives_null_at (unless s g) i j w d e = derives_null_at g i j w d.1 e
    derives_null_at (build h g) i j w (u, d, e1) e = derives_null_at g i j u d e

    row_first : (g : Grammar V F)
        → ((i j : ℕ) (w : List V) → DerivesIn t inner g i j w → i < j → member (t.kind i) (first g) ≡ true)
        → {i j : ℕ} {w : List V} → Row (DerivesIn t inner g) i j w → i < j → member (t.kind i) (first g) ≡ true
    row_first g each done lt = absurd (omega arith)
    row_first g each (then {i} {k} {j} {u} {v} d r) lt =
        elim (le_cases i k (derives_le t inner begun inner_le begun_le g i k u d)) [
          | inl l ↦ each i k u d l
          | inr e ↦ subst (λ (x : ℕ). member (t.kind x) (first g) ≡ true) (sym e) (row_first g each r (omega arith))
        ]

    sep_first : (s : List ℕ) (g : Grammar V F) {i j : ℕ} {w : List V} → DerivesIn t inner (sep s g) i j w → i < j → member (t.kind i) s ≡ true
    sep_first s g (k, done, inl e) lt = absurd (omega arith)
    sep_first s g (k, done, inr e) lt = e.0
    sep_first s g (k, then d r, x) lt = d.0

    sep_begun : (s : List ℕ) (g : Grammar V F) {i m : ℕ} → BeginsIn t inner begun (sep s g) i m → i < m → member (t.kind i) s ≡ true
    sep_begun s g (k, u, done, inl e) lt = absurd (omega arith)
    sep_begun s g (k, u, done, inr e) lt = e.0
    sep_begun s g (k, u, then d r, x) lt = d.0

    pub derives_first : (g : Grammar V F) (i j : ℕ) (w : List V) → DerivesIn t inner g i j w → i < j → member (t.kind i) (first g) ≡ true
    derives_first (keep s) i j w d lt = d.0
    derives_first (skip s) i j w d lt = d.0
    derives_first empty i j w d lt = absurd (omega (arith, d.0))
    derives_first (ahead s) i j w d lt = absurd (omega (arith, d.1))
    derives_first (seq a b) i j w (k, u, v, da, db, e1) lt =
        elim (le_cases i k (derives_le t inner begun inner_le begun_le a i k u da)) [
          | inl l ↦ member_left (t.kind i) (first a) (when (nullable a) (first b)) (derives_first a i k u da l)
          | inr e ↦ member_right (t.kind i) (first a) (when (nullable a) (first b))
              (member_when (t.kind i) (nullable a) (first b) (derives_null a i k u da (sym e))
              (subst (λ (x : ℕ). member (t.kind x) (first b) ≡ true) (sym e) (derives_first b k j v db (omega arith))))
        ]
    derives_first (alt a b) i j w (inl d) lt = member_left (t.kind i) (first a) (first b) (derives_first a i j w d lt)
    derives_first (alt a b) i j w (inr d) lt = member_right (t.kind i) (first a) (first b) (derives_first b i j w d lt)
    derives_first (many g) i j w d lt = row_first g (derives_first g) d lt
    derives_first (sep s g) i j w d lt = sep_first s g d lt
    derives_first (group o f c) i j w (p, k, d, q, e1) lt = p
    derives_first (unless s g) i j w d lt = member_without (t.kind i) s (first g) d.0 (derives_first g i j w d.1 lt)
    derives_first (build h g) i j w (u, d, e1) lt = derives_first g i j u d lt

    pub begins_first : (g : Grammar V F) (i m : ℕ) → BeginsIn t inner begun g i m → i < m → member (t.kind i) (first g) ≡ true
    begins_first (keep s) i m (inl e) lt = absurd (omega arith)
    begins_first (keep s) i m (inr e) lt = e.0
    begins_first (skip s) i m (inl e) lt = absurd (omega arith)
    begins_first (skip s) i m (inr e) lt = e.0
    begins_first empty i m e lt = absurd (omega arith)
    begins_first (ahead s) i m e lt = absurd (omega arith)
    begins_first (seq a b) i m (inl x) lt = member_left (t.kind i) (first a) (when (nullable a) (first b)) (begins_first a i m x lt)
    begins_first (seq a b) i m (inr (k, u, da, x)) lt =
        elim (le_cases i k (derives_le t inner begun inner_le begun_le a i k u da)) [
          | inl l ↦ member_left (t.kind i) (first a) (when (nullable a) (first b)) (derives_first a i k u da l)
          | inr e ↦ member_right (t.kind i) (first a) (when (nullable a) (first b))
              (member_when (t.kind i) (nullable a) (first b) (derives_null a i k u da (sym e))
              (subst (λ (x : ℕ). member (t.kind x) (first b) ≡ true) (sym e) (begins_first b k m x (omega arith))))
        ]
    begins_first (alt a b) i m (inl d) lt = member_left (t.kind i) (first a) (first b) (begins_first a i m d lt)
    begins_first (alt a b) i m (inr d) lt = member_right (t.kind i) (first a) (first b) (begins_first b i m d lt)
    begins_first (many g) i m (k, u, r, x) lt =
        elim (le_cases i k (derives_le t inner begun inner_le begun_le (many g) i k u r)) [
          | inl l ↦ derives_first (many g) i k u r l
          | inr e ↦ elim x [
            | inl e2 ↦ absurd (omega arith)
            | inr y ↦ subst (λ (x : ℕ). member (t.kind x) (first g) ≡ true) (sym e) (begins_first g k m y (omega arith))
          ]
        ]
    begins_first (sep s g) i m x lt = sep_begun s g x lt
    begins_first (group o f c) i m (inl e) lt = absurd (omega arith)
    begins_first (group o f c) i m (inr (p, x)) lt = p
    begins_first (unless s g) i m (inl e) lt = absurd (omega arith)
    begins_first (unless s g) i m (inr x) lt = member_without (t.kind i) s (first g) x.0 (begins_first g i m x.1 lt)
    begins_first (build h g) i m d lt = begins_first g i m d lt

    -- after a, b has read to j
    seq_after : (a b : Grammar V F) (k j : ℕ) (v : List V) → disjoint (more a) (first b) ≡ true
        → member (t.kind k) (more a) ≡ true → DerivesIn t inner b k j v
        → member (t.kind j) (more b ++ only (null_at b) (more a)) ≡ true
    seq_after a b k j v apart_ab m d =
        elim (le_cases k j (derives_le t inner begun inner_le begun_le b k j v d)) [
          | inl l ↦ absurd (apart (t.kind k) (more a) (first b) apart_ab m (derives_first b k j v d l))
          | inr e ↦ member_right (t.kind j) (more b) (only (null_at b) (more a))
              (member_only (t.kind j) (null_at b) (more a) (subst (λ (x : ℕ). allows (t.kind x) (null_at b) ≡ true) e (derives_null_at b k j v d (sym e)))
              (subst (λ (x : ℕ). member (t.kind x) (more a) ≡ true) e m))
        ]

    -- the token at k goes on after an item, and further items are read to j
    row_after : (g : Grammar V F) (k j : ℕ) (v : List V) → disjoint (more g) (first g) ≡ true
        → member (t.kind k) (more g) ≡ true → Row (DerivesIn t inner g) k j v
        → member (t.kind j) (more g ++ first g) ≡ true
    row_after g k j v apart_g m r =
        elim (le_cases k j (derives_le t inner begun inner_le begun_le (many g) k j v r)) [
          | inl l ↦ absurd (apart (t.kind k) (more g) (first g) apart_g m (derives_first (many g) k j v r l))
          | inr e ↦ member_left (t.kind j) (more g) (first g) (subst (λ (x : ℕ). member (t.kind x) (more g) ≡ true) e m)
        ]

    rows_more : (g : Grammar V F) → disjoint (more g) (first g) ≡ true
        → ((i j m : ℕ) (w : List V) → DerivesIn t inner g i j w → BeginsIn t inner begun g i m → j < m → member (t.kind j) (more g) ≡ true)
        → {i j m : ℕ} {w : List V} → Row (DerivesIn t inner g) i j w → BeginsIn t inner begun (many g) i m
        → j < m → member (t.kind j) (more g ++ first g) ≡ true
    rows_more g ap_g each {m = m} (done {i}) x lt = member_right (t.kind i) (more g) (first g) (begins_first (many g) i m x lt)
    rows_more g ap_g each {m = m} (then {i} {k} {j} {u} {v} d r1) (k3, u3, done, inl e) lt =
        absurd (omega (arith, derives_le t inner begun inner_le begun_le g i k u d, derives_le t inner begun inner_le begun_le (many g) k j v r1))
    rows_more g ap_g each {m = m} (then {i} {k} {j} {u} {v} d r1) (k3, u3, done, inr y) lt =
        row_after g k j v ap_g (each i k m u d y (omega (arith, derives_le t inner begun inner_le begun_le (many g) k j v r1))) r1
    rows_more g ap_g each {m = m} (then {i} {k} {j} {u} {v} d r1) (k3, u3, then {k = k2} {u = u2} {v = v2} d2 r2, x) lt =
        let lj : k ≤ j = derives_le t inner begun inner_le begun_le (many g) k j v r1 in
        elim (order3 k k2) [
          | inl l ↦ row_after g k j v ap_g (each i k k2 u d (derives_begins t inner begun inner_begins g i k2 u2 d2) l) r1
          | inr (inl e) ↦ rows_more g ap_g each r1 (subst (λ (y : ℕ). BeginsIn t inner begun (many g) y m) (sym e) (k3, v2, r2, x)) lt
          | inr (inr l) ↦ absurd (apart (t.kind k2) (more g) (first g) ap_g
              (each i k2 k u2 d2 (derives_begins t inner begun inner_begins g i k u d) l)
              (begins_first (many g) k2 m (k3, v2, r2, x) (omega arith)))
        ]

    -- behind an item that could go on at k, nothing more is read
    sep_after : (s : List ℕ) (g : Grammar V F) (k j : ℕ) (v : List V) → disjoint (more g) s ≡ true
        → member (t.kind k) (more g) ≡ true → DerivesIn t inner (sep s g) k j v
        → member (t.kind j) ((more g ++ s) ++ first g) ≡ true
    sep_after s g k j v apart_g m x =
        elim (le_cases k j (derives_le t inner begun inner_le begun_le (sep s g) k j v x)) [
          | inl l ↦ absurd (apart (t.kind k) (more g) s apart_g m (sep_first s g x l))
          | inr e ↦ member_left (t.kind j) (more g ++ s) (first g) (member_left (t.kind j) (more g) s (subst (λ (x : ℕ). member (t.kind x) (more g) ≡ true) e m))
        ]

    -- an item begins behind a separator
    pub starts : (g : Grammar V F) → not (nullable g) ≡ true → (i j : ℕ) (w : List V) → DerivesIn t inner g i j w → member (t.kind i) (first g) ≡ true
    starts g nn i j w d =
        elim (le_cases i j (derives_le t inner begun inner_le begun_le g i j w d)) [
          | inl l ↦ derives_first g i j w d l
          | inr e ↦ absurd (not_null (nullable g) nn (derives_null g i j w d (sym e)))
        ]

    seps_more : (s : List ℕ) (g : Grammar V F) → disjoint (more g) s ≡ true → not (nullable g) ≡ true
        → ((i j m : ℕ) (w : List V) → DerivesIn t inner g i j w → BeginsIn t inner begun g i m → j < m → member (t.kind j) (more g) ≡ true)
        → {i j k m : ℕ} {w : List V} → Row (Item t s (DerivesIn t inner g)) i k w → (j ≡ k) ⊎ ((member (t.kind k) s ≡ true) × (j ≡ suc k))
        → BeginsIn t inner begun (sep s g) i m → j < m → member (t.kind j) ((more g ++ s) ++ first g) ≡ true
    seps_more s g ap_g nn each {j = j} {m = m} (done {i}) (inl e) y lt =
        member_left (t.kind j) (more g ++ s) (first g) (member_right (t.kind j) (more g) s
        (subst (λ (x : ℕ). member (t.kind x) s ≡ true) (sym e) (sep_begun s g y (omega arith))))
    seps_more s g ap_g nn each {j = j} {m = m} (done {i}) (inr e) (k2, u2, done, inl e2) lt = absurd (omega (arith, e.1))
    seps_more s g ap_g nn each {j = j} {m = m} (done {i}) (inr e) (k2, u2, done, inr y) lt =
        member_right (t.kind j) (more g ++ s) (first g)
        (subst (λ (x : ℕ). member (t.kind x) (first g) ≡ true) (sym e.1) (begins_first g (suc i) m y.1 (omega (arith, e.1))))
    seps_more s g ap_g nn each {j = j} {m = m} (done {i}) (inr e) (k2, u2, then {k = k3} {u = u3} d r, y) lt =
        member_right (t.kind j) (more g ++ s) (first g)
        (subst (λ (x : ℕ). member (t.kind x) (first g) ≡ true) (sym e.1) (starts g nn (suc i) k3 u3 d.1))
    seps_more s g ap_g nn each {j = j} {k = kk} {m = m} (then {i} {k} {u = u} {v = v} d r1) x (k2, u2, done, inl e2) lt =
        absurd (omega (arith, derives_le t inner begun inner_le begun_le g (suc i) k u d.1, derives_le t inner begun inner_le begun_le (sep s g) k j v (kk, r1, x)))
    seps_more s g ap_g nn each {j = j} {k = kk} {m = m} (then {i} {k} {u = u} {v = v} d r1) x (k2, u2, done, inr y) lt =
        sep_after s g k j v ap_g (each (suc i) k m u d.1 y.1 (omega (arith, derives_le t inner begun inner_le begun_le (sep s g) k j v (kk, r1, x)))) (kk, r1, x)
    seps_more s g ap_g nn each {j = j} {k = kk} {m = m} (then {i} {k} {u = u} {v = v} d r1) x (k2, u2, then {k = k3} {u = u3} {v = v3} d2 r2, y) lt =
        let lj : k ≤ j = derives_le t inner begun inner_le begun_le (sep s g) k j v (kk, r1, x) in
        elim (order3 k k3) [
          | inl l ↦ sep_after s g k j v ap_g (each (suc i) k k3 u d.1 (derives_begins t inner begun inner_begins g (suc i) k3 u3 d2.1) l) (kk, r1, x)
          | inr (inl e) ↦ seps_more s g ap_g nn each r1 x (subst (λ (z : ℕ). BeginsIn t inner begun (sep s g) z m) (sym e) (k2, v3, r2, y)) lt
          | inr (inr l) ↦ absurd (apart (t.kind k3) (more g) s ap_g
              (each (suc i) k3 k u3 d2.1 (derives_begins t inner begun inner_begins g (suc i) k u d.1) l)
              (sep_begun s g (k2, v3, r2, y) (omega arith)))
        ]

    -- Where a whole text is at the front of a longer beginning, the token after it is one of those that go on.
    pub derives_more : (g : Grammar V F) → decided rules g ≡ true → (i j m : ℕ) (w : List V)
        → DerivesIn t inner g i j w → BeginsIn t inner begun g i m → j < m → member (t.kind j) (more g) ≡ true
    derives_more (keep s) ok i j m w d (inl e) lt = absurd (omega (arith, d.1))
    derives_more (keep s) ok i j m w d (inr e) lt = absurd (omega (arith, d.1, e.1))
    derives_more (skip s) ok i j m w d (inl e) lt = absurd (omega (arith, d.1))
    derives_more (skip s) ok i j m w d (inr e) lt = absurd (omega (arith, d.1, e.1))
    derives_more empty ok i j m w d e lt = absurd (omega (arith, d.0))
    derives_more (ahead s) ok i j m w d e lt = absurd (omega (arith, d.1))
    derives_more (seq a b) ok i j m w (k, u, v, da, db, e1) (inl x) lt =
        let oks1 = and_both (decided rules a && decided rules b) (disjoint (more a) (first b) && ((sure a || not (nullable a)) || is_none (first b))) ok in
        let ap_ab = (and_both (disjoint (more a) (first b)) ((sure a || not (nullable a)) || is_none (first b)) oks1.1).0 in
        let okab = and_both (decided rules a) (decided rules b) oks1.0 in
        seq_after a b k j v ap_ab (derives_more a okab.0 i k m u da x (omega (arith, derives_le t inner begun inner_le begun_le b k j v db))) db
    derives_more (seq a b) ok i j m w (k, u, v, da, db, e1) (inr (k2, u2, d2, x)) lt =
        let oks1 = and_both (decided rules a && decided rules b) (disjoint (more a) (first b) && ((sure a || not (nullable a)) || is_none (first b))) ok in
        let ap_ab = (and_both (disjoint (more a) (first b)) ((sure a || not (nullable a)) || is_none (first b)) oks1.1).0 in
        let okab = and_both (decided rules a) (decided rules b) oks1.0 in
        elim (order3 k k2) [
          | inl l ↦ seq_after a b k j v ap_ab (derives_more a okab.0 i k k2 u da (derives_begins t inner begun inner_begins a i k2 u2 d2) l) db
          | inr (inl e) ↦ member_left (t.kind j) (more b) (only (null_at b) (more a))
              (derives_more b okab.1 k j m v db (subst (λ (x : ℕ). BeginsIn t inner begun b x m) (sym e) x) lt)
          | inr (inr l) ↦ absurd (apart (t.kind k2) (more a) (first b) ap_ab
              (derives_more a okab.0 i k2 k u2 d2 (derives_begins t inner begun inner_begins a i k u da) l)
              (begins_first b k2 m x (omega (arith, derives_le t inner begun inner_le begun_le b k j v db))))
        ]
    derives_more (alt a b) ok i j m w (inl d) (inl x) lt =
        let oks = and_both (decided rules a && decided rules b) (disjoint (first a) (first b) && not (nullable a)) ok in
        let okab = and_both (decided rules a) (decided rules b) oks.0 in
        member_left (t.kind j) (more a ++ more b) (only (null_at b) (first a)) (member_left (t.kind j) (more a) (more b) (derives_more a okab.0 i j m w d x lt))
    derives_more (alt a b) ok i j m w (inr d) (inr x) lt =
        let oks = and_both (decided rules a && decided rules b) (disjoint (first a) (first b) && not (nullable a)) ok in
        let okab = and_both (decided rules a) (decided rules b) oks.0 in
        member_left (t.kind j) (more a ++ more b) (only (null_at b) (first a)) (member_right (t.kind j) (more a) (more b) (derives_more b okab.1 i j m w d x lt))
    derives_more (alt a b) ok i j m w (inl d) (inr x) lt =
        let oks = and_both (decided rules a && decided rules b) (disjoint (first a) (first b) && not (nullable a)) ok in
        let ok2 = and_both (disjoint (first a) (first b)) (not (nullable a)) oks.1 in
        elim (le_cases i j (derives_le t inner begun inner_le begun_le a i j w d)) [
          | inl l ↦ absurd (apart (t.kind i) (first a) (first b) ok2.0 (derives_first a i j w d l) (begins_first b i m x (omega arith)))
          | inr e ↦ absurd (not_null (nullable a) ok2.1 (derives_null a i j w d (sym e)))
        ]
    derives_more (alt a b) ok i j m w (inr d) (inl x) lt =
        let oks = and_both (decided rules a && decided rules b) (disjoint (first a) (first b) && not (nullable a)) ok in
        let ok2 = and_both (disjoint (first a) (first b)) (not (nullable a)) oks.1 in
        let fa = begins_first a i m x (omega (arith, derives_le t inner begun inner_le begun_le b i j w d)) in
        elim (le_cases i j (derives_le t inner begun inner_le begun_le b i j w d)) [
          | inl l ↦ absurd (apart (t.kind i) (first a) (first b) ok2.0 fa (derives_first b i j w d l))
          | inr e ↦ member_right (t.kind j) (more a ++ more b) (only (null_at b) (first a))
              (member_only (t.kind j) (null_at b) (first a) (subst (λ (x : ℕ). allows (t.kind x) (null_at b) ≡ true) e (derives_null_at b i j w d (sym e)))
              (subst (λ (x : ℕ). member (t.kind x) (first a) ≡ true) e fa))
        ]
    derives_more (many g) ok i j m w d (k, u, r, x) lt =
        let oks0 = and_both (decided rules g && (disjoint (more g) (first g) && not (nullable g))) (not (member 0 (first g))) ok in
        let oks = and_both (decided rules g) (disjoint (more g) (first g) && not (nullable g)) oks0.0 in
        let ok2 = and_both (disjoint (more g) (first g)) (not (nullable g)) oks.1 in
        rows_more g ok2.0 (derives_more g oks.0) d (k, u, r, x) lt
    derives_more (sep s g) ok i j m w (k, r, x) y lt =
        let oks0 = and_both (decided rules g && (disjoint (more g) s && not (nullable g))) (not (member 0 s)) ok in
        let oks = and_both (decided rules g) (disjoint (more g) s && not (nullable g)) oks0.0 in
        let ok2 = and_both (disjoint (more g) s) (not (nullable g)) oks.1 in
        seps_more s g ok2.0 ok2.1 (derives_more g oks.0) r x y lt
    derives_more (group o f c) ok i j m w (p, k, d, q, e1) (inl e) lt = absurd (omega (arith, inner_le f (suc i) k w d))
    derives_more (group o f c) ok i j m w (p, k, d, q, e1) (inr (p2, inl x)) lt =
        absurd (apart (t.kind k) (more (rules f)) c ok (inner_more f (suc i) k m w d x (omega arith)) q)
    derives_more (group o f c) ok i j m w (p, k, d, q, e1) (inr (p2, inr (k2, u2, d2, q2, e2))) lt =
        absurd (apart (t.kind k) (more (rules f)) c ok (inner_more f (suc i) k k2 w d (inner_begins f (suc i) k2 u2 d2) (omega arith)) q)
    derives_more (unless s g) ok i j m w d (inl e) lt = absurd (omega (arith, derives_le t inner begun inner_le begun_le g i j w d.1))
    derives_more (unless s g) ok i j m w d (inr x) lt = derives_more g (and_both (decided rules g) (not (nullable g)) ok).0 i j m w d.1 x.1 lt
    derives_more (build h g) ok i j m w (u, d, e1) x lt = derives_more g ok i j m u d x lt
