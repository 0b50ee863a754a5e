-- A text ends at the end at the latest.
use Rattle.std.proofs.Common.{◌≡◌, ℕ, suc, ◌≤◌, ◌<◌, true, not, ◌⊎◌, List, inl, inr, subst, arith}
use Rattle.sw_parse_grammar.specs.Grammar.{Grammar, keep, skip, empty, ahead, seq, alt, many, sep, Item, group, unless, build, solid, member, Row, done, then, Text, DerivesIn}
use Rattle.sw_parse_grammar.proofs.Sets.{and_both, not_false}

lt_or_le : (a b : ℕ) → (a < b) ⊎ (b ≤ a)
lt_or_le a b = grind arith

module _ {V F : Type 0} (t : Text V) (inner : F → ℕ → ℕ → List V → Type 0) (end : ℕ) (past : (i : ℕ) → end ≤ i → t.kind i ≡ 0) where
  within : (s : List ℕ) (i : ℕ) → not (member 0 s) ≡ true → member (t.kind i) s ≡ true → i < end
  within s i n m = elim (lt_or_le i end) [
    | inl l ↦ l
    | inr l ↦ (let x = not_false (member 0 s) n in let y = subst (λ (z : ℕ). member z s ≡ true) (past i l) m in absurd (cc))
  ]

  row_end : (g : Grammar V F) → ((i j : ℕ) (w : List V) → DerivesIn t inner g i j w → i ≤ end → j ≤ end) → {i j : ℕ} {w : List V} → Row (DerivesIn t inner g) i j w → i ≤ end → j ≤ end
  row_end g each done l = l
  row_end g each (then {i} {k} {j} {u} {v} d r) l = row_end g each r (each i k u d l)

  sep_end : (s : List ℕ) (g : Grammar V F) → not (member 0 s) ≡ true → ((i j : ℕ) (w : List V) → DerivesIn t inner g i j w → i ≤ end → j ≤ end) → {i j : ℕ} {w : List V} → Row (Item t s (DerivesIn t inner g)) i j w → i ≤ end → j ≤ end
  sep_end s g n each done l = l
  sep_end s g n each (then {i} {k} {j} {u} {v} d r) l = sep_end s g n each r (each (suc i) k u d.1 (within s i n d.0))

  pub derives_end : (g : Grammar V F) → solid g ≡ true → (i j : ℕ) (w : List V) → DerivesIn t inner g i j w → i ≤ end → j ≤ end
  derives_end (keep s) ok i j w d l = let x = within s i ok d.0 in omega (arith, d.1)
  derives_end (skip s) ok i j w d l = let x = within s i ok d.0 in omega (arith, d.1)
  derives_end empty ok i j w d l = omega (arith, d.0)
  derives_end (ahead s) ok i j w d l = omega (arith, d.1)
  derives_end (seq a b) ok i j w (k, u, v, da, db, e) l =
      let oks = and_both (solid a) (solid b) ok in derives_end b oks.1 k j v db (derives_end a oks.0 i k u da l)
  derives_end (alt a b) ok i j w (inl d) l = let oks = and_both (solid a) (solid b) ok in derives_end a oks.0 i j w d l
  derives_end (alt a b) ok i j w (inr d) l = let oks = and_both (solid a) (solid b) ok in derives_end b oks.1 i j w d l
  derives_end (many g) ok i j w d l = row_end g (derives_end g ok) d l
  derives_end (sep s g) ok i j w (k, r, x) l =
      let oks = and_both (not (member 0 s)) (solid g) ok in
      let le = sep_end s g oks.0 (derives_end g oks.1) r l in
      elim x [ inl e ↦ omega arith | inr e ↦ (let y = within s k oks.0 e.0 in omega (arith, e.1)) ]
  derives_end (group o f c) ok i j w (p, k, d, q, e) l = let x = within c k ok q in omega (arith, e)
  derives_end (unless s g) ok i j w d l = derives_end g ok i j w d.1 l
  derives_end (build h g) ok i j w (u, d, e) l = derives_end g ok i j u d l
