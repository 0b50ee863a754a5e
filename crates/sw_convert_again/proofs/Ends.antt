-- What begins in a text ends at its end at the latest.
use Rattle.std.proofs.Common.{◌≡◌, ℕ, zero, suc, ◌≤◌, ◌<◌, true, not, ◌⊎◌, List, inl, inr, subst, arith}
use Rattle.sw_parse_grammar.specs.Grammar.{Grammar, keep, skip, empty, ahead, seq, alt, many, sep, Item, group, unless, build, member, Row, done, then, Text, DerivesIn, BeginsIn, Derives, Begins}
use Rattle.sw_parse_grammar.proofs.Sets.{and_both, not_false}
use Rattle.sw_convert_again.specs.Closed.{closed}

lt_or_le : (a b : ℕ) → (a < b) ⊎ (b ≤ a)
lt_or_le a b = grind arith

module _ {V : Type 0} (t : Text V) (end : ℕ) (past : (i : ℕ) → end ≤ i → t.kind i ≡ 0) where
  pub within : (s : List ℕ) (i : ℕ) → not (member 0 s) ≡ true → member (t.kind i) s ≡ true → i < end
  within s i n m = elim (lt_or_le i end) [
    | inl l ↦ l
    | inr l ↦ (let x = not_false (member 0 s) n in let y = subst (λ (z : ℕ). member z s ≡ true) (past i l) m in
        absurd (cc))
  ]

  module _ {F : Type 0} (inner : F → ℕ → ℕ → List V → Type 0) where
    row_in : (g : Grammar V F) → ((i j : ℕ) (w : List V) → DerivesIn t inner g i j w → i ≤ end → j ≤ end)
        → {i j : ℕ} {w : List V} → Row (DerivesIn t inner g) i j w → i ≤ end → j ≤ end
    row_in g each done l = l
    row_in g each (then {i} {k} {j} {u} {v} d r) l = row_in g each r (each i k u d l)

    items_in : (s : List ℕ) (g : Grammar V F) → not (member 0 s) ≡ true
        → ((i j : ℕ) (w : List V) → DerivesIn t inner g i j w → i ≤ end → j ≤ end) → {i j : ℕ} {w : List V}
        → Row (Item t s (DerivesIn t inner g)) i j w → i ≤ end → j ≤ end
    items_in s g n each done l = l
    items_in s g n each (then {i} {k} {j} {u} {v} d r) l = items_in s g n each r
        (each (suc i) k u d.1 (within s i n d.0))

    pub derives_in : (g : Grammar V F) → closed g ≡ true → (i j : ℕ) (w : List V) → DerivesIn t inner g i j w
        → i ≤ end → j ≤ end
    derives_in (keep s) ok i j w d l = let x = within s i ok d.0 in omega (arith, d.1)
    derives_in (skip s) ok i j w d l = let x = within s i ok d.0 in omega (arith, d.1)
    derives_in empty ok i j w d l = omega (arith, d.0)
    derives_in (ahead s) ok i j w d l = omega (arith, d.1)
    derives_in (seq a b) ok i j w (k, u, v, da, db, e) l =
        let oks = and_both (closed a) (closed b) ok in derives_in b oks.1 k j v db (derives_in a oks.0 i k u da l)
    derives_in (alt a b) ok i j w (inl d) l = let oks = and_both (closed a) (closed b) ok in derives_in a oks.0 i j w
        d l
    derives_in (alt a b) ok i j w (inr d) l = let oks = and_both (closed a) (closed b) ok in derives_in b oks.1 i j w
        d l
    derives_in (many g) ok i j w d l = row_in g (derives_in g ok) d l
    derives_in (sep s g) ok i j w (k, r, x) l =
        let oks = and_both (not (member 0 s)) (closed g) ok in
        let le = items_in s g oks.0 (derives_in g oks.1) r l in
        elim x [ inl e ↦ omega arith | inr e ↦ (let y = within s k oks.0 e.0 in omega (arith, e.1)) ]
    derives_in (group o f c) ok i j w (p, k, d, q, e) l =
        let oks = and_both (not (member 0 o)) (not (member 0 c)) ok in
        let x = within c k oks.1 q in omega (arith, e)
    derives_in (unless s g) ok i j w d l = derives_in g ok i j w d.1 l
    derives_in (build h g) ok i j w (u, d, e) l = derives_in g ok i j u d l

    module _ (begun : F → ℕ → ℕ → Type 0) (begun_in : (f : F) (i m : ℕ) → begun f i m → i ≤ end → m ≤ end) where
      begins_in : (g : Grammar V F) → closed g ≡ true → (i m : ℕ) → BeginsIn t inner begun g i m → i ≤ end → m ≤ end
      begins_in (keep s) ok i m (inl e) l = omega (arith, e)
      begins_in (keep s) ok i m (inr d) l = let x = within s i ok d.0 in omega (arith, d.1)
      begins_in (skip s) ok i m (inl e) l = omega (arith, e)
      begins_in (skip s) ok i m (inr d) l = let x = within s i ok d.0 in omega (arith, d.1)
      begins_in empty ok i m e l = omega (arith, e)
      begins_in (ahead s) ok i m e l = omega (arith, e)
      begins_in (seq a b) ok i m (inl d) l = let oks = and_both (closed a) (closed b) ok in begins_in a oks.0 i m d l
      begins_in (seq a b) ok i m (inr (k, u, da, db)) l =
          let oks = and_both (closed a) (closed b) ok in begins_in b oks.1 k m db (derives_in a oks.0 i k u da l)
      begins_in (alt a b) ok i m (inl d) l = let oks = and_both (closed a) (closed b) ok in begins_in a oks.0 i m d l
      begins_in (alt a b) ok i m (inr d) l = let oks = and_both (closed a) (closed b) ok in begins_in b oks.1 i m d l
      begins_in (many g) ok i m (k, u, r, x) l =
          let le = row_in g (derives_in g ok) r l in
          elim x [ inl e ↦ omega (arith, e) | inr d ↦ begins_in g ok k m d le ]
      begins_in (sep s g) ok i m (k, u, r, x) l =
          let oks = and_both (not (member 0 s)) (closed g) ok in
          let le = items_in s g oks.0 (derives_in g oks.1) r l in
          elim x [ inl e ↦ omega (arith, e) | inr d ↦ begins_in g oks.1 (suc k) m d.1 (within s k oks.0 d.0) ]
      begins_in (group o f c) ok i m (inl e) l = omega (arith, e)
      begins_in (group o f c) ok i m (inr (p, x)) l =
          let oks = and_both (not (member 0 o)) (not (member 0 c)) ok in
          let one = within o i oks.0 p in
          elim x [
            | inl d ↦ begun_in f (suc i) m d one
            | inr d ↦ (let (k, u, dk, q, e) = d in let y = within c k oks.1 q in omega (arith, e))
          ]
      begins_in (unless s g) ok i m (inl e) l = omega (arith, e)
      begins_in (unless s g) ok i m (inr d) l = begins_in g ok i m d.1 l
      begins_in (build h g) ok i m d l = begins_in g ok i m d l

  pub begins_end : {F : Type 0} → (rules : F → Grammar V F) → ((f : F) → closed (rules f) ≡ true)
      → (n : ℕ) (f : F) (i m : ℕ) → Begins rules t n f i m → i ≤ end → m ≤ end
  begins_end rules ok zero f i m d l = absurd d
  begins_end rules ok (suc n) f i m d l =
      begins_in (Derives rules t n) (Begins rules t n) (begins_end rules ok n) (rules f) (ok f) i m d l
