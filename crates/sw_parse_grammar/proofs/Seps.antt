-- The loop of a list with separators, and what stands under unless.
use Rattle.std.proofs.Common.{◌≡◌, ℕ, zero, suc, ◌+◌, ◌-◌, ◌≤◌, ◌<◌, Bool, true, false, not, ◌&&◌, ◌⊎◌, List, [], ◌++◌, inl, inr, refl, sym, ◌∙◌, ap, subst, arith, add-one, append-nil}
use Rattle.sw_parse_grammar.specs.Grammar.{Grammar, sep, unless, nullable, first, repeat_sep, and_then, prepend, more, decided, disjoint, member, Text, Answer, Got, Unexpected, TooDeep, run, inside}
use Rattle.sw_parse_grammar.specs.Readers.{parse, Fails}
use Rattle.sw_parse_grammar.specs.declared.ReadError.{ReadError}
use Rattle.sw_parse_grammar.specs.declared.ReadError.TheVariants as ends
use Rattle.sw_parse_grammar.proofs.Sets.{and_both, not_false, at_true, at_false, without_both}
use Rattle.sw_parse_grammar.proofs.Knot.{forward}
use Rattle.sw_parse_grammar.proofs.Loops.{Fit, prepend_twice, at_first}

lt_or_le : (a b : ℕ) → (a < b) ⊎ (b ≤ a)
lt_or_le a b = grind arith

module _ {V F : Type 0} (rules : F → Grammar V F) (t : Text V) (end n : ℕ) where
  -- a place that the set lets through
  pub read_unless : (s : List ℕ) (g : Grammar V F) (i : ℕ) → member (t.kind i) s ≡ false → parse rules t end n (unless s g) i ≡ parse rules t end n g i
  unfolding parse
  read_unless s g i off = at_false (member (t.kind i) s) (Unexpected i) _ off

  pub unless_item : (s : List ℕ) (g : Grammar V F) (i : ℕ) → member (t.kind i) (first (unless s g)) ≡ true → parse rules t end n (unless s g) i ≡ parse rules t end n g i
  unless_item s g i at = read_unless s g i (without_both (t.kind i) s (first g) at).0

  -- fs is the first set, as the reader tests it
  pub guarded : (s fs : List ℕ) (g : Grammar V F) (i : ℕ) (a : Answer V) → first (unless s g) ≡ fs → member (t.kind i) fs ≡ true → parse rules t end n g i ≡ a → parse rules t end n (unless s g) i ≡ a
  guarded s fs g i a eq at e = unless_item s g i (at_first (unless s g) fs (t.kind i) true eq at) ∙ e

  pub guarded_fails : (s fs : List ℕ) (g : Grammar V F) (i : ℕ) (e : ReadError) → first (unless s g) ≡ fs → member (t.kind i) fs ≡ true → Fails e (parse rules t end n g i) → Fails e (parse rules t end n (unless s g) i)
  guarded_fails s fs g i e eq at x = subst (Fails e) (sym (unless_item s g i (at_first (unless s g) fs (t.kind i) true eq at))) x

module _ {V F : Type 0} {rules : F → Grammar V F} {t : Text V} {end : ℕ} (fit : Fit rules t end) (n : ℕ) (s : List ℕ) (g : Grammar V F) (okm : decided rules (sep s g) ≡ true) where
  parts : (decided rules g ≡ true) × (not (nullable g) ≡ true) × (not (member 0 s) ≡ true)
  parts =
      let oks0 = and_both (decided rules g && (disjoint (more g) s && not (nullable g))) (not (member 0 s)) okm in
      let oks = and_both (decided rules g) (disjoint (more g) s && not (nullable g)) oks0.0 in
      let ok2 = and_both (disjoint (more g) s) (not (nullable g)) oks.1 in
      (oks.0, ok2.1, oks0.1)

  off : (i : ℕ) → end ≤ i → member (t.kind i) s ≡ false
  off i l = subst (λ (z : ℕ). member z s ≡ false) (sym (fit.past i l)) (not_false (member 0 s) parts.2)

  abbrev loop : ℕ → ℕ → Answer V
  loop m i = repeat_sep (λ k. member (t.kind k) s) (λ k. member (t.kind k) (first g)) (run t end (inside rules t end n) g) m i

  fuel : (m m' i : ℕ) → end < m + i → end < m' + i → loop m i ≡ loop m' i
  fuel zero zero i l l' = refl
  fuel zero (suc m') i l l' = sym (at_false (member (t.kind i) s) _ (Got [] i) (off i (omega arith)))
  fuel (suc m) zero i l l' = at_false (member (t.kind i) s) _ (Got [] i) (off i (omega arith))
  fuel (suc m) (suc m') i l l' = choice (λ j e. fuel m m' j e) (run t end (inside rules t end n) g (suc i)) refl (member (t.kind i) s) (member (t.kind (suc i)) (first g))
    where
      choice : ((j : ℕ) → end < m + j → end < m' + j → loop m j ≡ loop m' j)
          → (a : Answer V) → run t end (inside rules t end n) g (suc i) ≡ a → (x y : Bool)
          → elim x as (λ _. Answer V) [ true ↦ elim y as (λ _. Answer V) [ true ↦ and_then a (λ u j. prepend u (loop m j)) | false ↦ Got [] (suc i) ] | false ↦ Got [] i ]
          ≡ elim x as (λ _. Answer V) [ true ↦ elim y as (λ _. Answer V) [ true ↦ and_then a (λ u j. prepend u (loop m' j)) | false ↦ Got [] (suc i) ] | false ↦ Got [] i ]
      choice ih a e false y = refl
      choice ih a e true false = refl
      choice ih (Got u j) e true true = let lt = forward rules t fit.ok end fit.past n g parts.0 parts.1 (suc i) j u e in ap (prepend u) (ih j (omega arith) (omega arith))
      choice ih (Unexpected k) e true true = refl
      choice ih (TooDeep k) e true true = refl

  before_end : (i : ℕ) → member (t.kind i) s ≡ true → i < end
  before_end i at = elim (lt_or_le i end) [ inl l ↦ l | inr l ↦ (let x = off i l in absurd (cc)) ]

  -- one more item
  one_more : (i : ℕ) (a : Answer V) → member (t.kind i) s ≡ true → member (t.kind (suc i)) (first g) ≡ true → run t end (inside rules t end n) g (suc i) ≡ a
      → run t end (inside rules t end n) (sep s g) i ≡ and_then a (λ v k. prepend v (loop (end - i) k))
  one_more i a at st e =
      at_true (member (t.kind i) s) _ (Got [] i) at
      ∙ at_true (member (t.kind (suc i)) (first g)) _ (Got [] (suc i)) st
      ∙ ap (λ (a : Answer V). and_then a (λ v k. prepend v (loop (end - i) k))) e

  step : (i j : ℕ) (u : List V) → member (t.kind i) s ≡ true → member (t.kind (suc i)) (first g) ≡ true → run t end (inside rules t end n) g (suc i) ≡ Got u j
      → run t end (inside rules t end n) (sep s g) i ≡ prepend u (run t end (inside rules t end n) (sep s g) j)
  step i j u at st e =
      let lt = forward rules t fit.ok end fit.past n g parts.0 parts.1 (suc i) j u e in
      let inside_end = before_end i at in
      one_more i (Got u j) at st e ∙ ap (prepend u) (fuel (end - i) (suc (end - j)) j (omega arith) (omega arith))

  last : (i : ℕ) → member (t.kind i) s ≡ true → member (t.kind (suc i)) (first g) ≡ false → run t end (inside rules t end n) (sep s g) i ≡ Got [] (suc i)
  last i at st = at_true (member (t.kind i) s) _ (Got [] i) at ∙ at_false (member (t.kind (suc i)) (first g)) _ (Got [] (suc i)) st

  -- The item behind a separator ends behind it.
  pub sep_forward : (place next : ℕ) (u : List V) → parse rules t end n g (place + 1) ≡ Got u next → place < next
  unfolding parse
  sep_forward place next u e = let lt = forward rules t fit.ok end fit.past n g parts.0 parts.1 (place + 1) next u e in omega arith

  -- A loop of sep s g: acc is what was read from at to place, and a separator stands at place.
  pub sep_step : (acc u : List V) (at place next : ℕ) → prepend acc (parse rules t end n (sep s g) place) ≡ parse rules t end n (sep s g) at
      → member (t.kind place) s ≡ true → member (t.kind (place + 1)) (first g) ≡ true → parse rules t end n g (place + 1) ≡ Got u next
      → prepend (acc ++ u) (parse rules t end n (sep s g) next) ≡ parse rules t end n (sep s g) at
  unfolding parse
  sep_step acc u at place next inv m st e =
      sym (prepend_twice acc u (parse rules t end n (sep s g) next))
      ∙ ap (prepend acc) (sym (step place next u m (subst (λ (z : ℕ). member (t.kind z) (first g) ≡ true) (add-one place) st)
      (subst (λ (z : ℕ). run t end (inside rules t end n) g z ≡ Got u next) (add-one place) e)))
      ∙ inv

  -- no separator there
  pub sep_end : (acc : List V) (at place : ℕ) → prepend acc (parse rules t end n (sep s g) place) ≡ parse rules t end n (sep s g) at
      → member (t.kind place) s ≡ false → parse rules t end n (sep s g) at ≡ Got acc place
  unfolding parse
  sep_end acc at place inv m = sym inv ∙ ap (prepend acc) (at_false (member (t.kind place) s) _ (Got [] place) m) ∙ ap (λ (x : List V). Got x place) (append-nil acc)

  -- a separator with no item behind it
  pub sep_last : (acc : List V) (at place : ℕ) → prepend acc (parse rules t end n (sep s g) place) ≡ parse rules t end n (sep s g) at
      → member (t.kind place) s ≡ true → member (t.kind (place + 1)) (first g) ≡ false → parse rules t end n (sep s g) at ≡ Got acc (place + 1)
  unfolding parse
  sep_last acc at place inv m st =
      sym inv
      ∙ ap (prepend acc) (last place m (subst (λ (z : ℕ). member (t.kind z) (first g) ≡ false) (add-one place) st))
      ∙ ap (λ (x : List V). Got x (suc place)) (append-nil acc)
      ∙ ap (λ (z : ℕ). Got acc z) (sym (add-one place))

  pub sep_fails : (acc : List V) (at place : ℕ) (e : ReadError) → prepend acc (parse rules t end n (sep s g) place) ≡ parse rules t end n (sep s g) at
      → member (t.kind place) s ≡ true → member (t.kind (place + 1)) (first g) ≡ true → Fails e (parse rules t end n g (place + 1)) → Fails e (parse rules t end n (sep s g) at)
  unfolding parse
  sep_fails acc at place ends.Memory inv m st x = tt
  sep_fails acc at place (ends.Unexpected k) inv m st x =
      sym inv ∙ ap (prepend acc) (one_more place (Unexpected k) m (subst (λ (z : ℕ). member (t.kind z) (first g) ≡ true) (add-one place) st)
      (subst (λ (z : ℕ). run t end (inside rules t end n) g z ≡ Unexpected k) (add-one place) x))
  sep_fails acc at place (ends.TooDeep k) inv m st x =
      sym inv ∙ ap (prepend acc) (one_more place (TooDeep k) m (subst (λ (z : ℕ). member (t.kind z) (first g) ≡ true) (add-one place) st)
      (subst (λ (z : ℕ). run t end (inside rules t end n) g z ≡ TooDeep k) (add-one place) x))
