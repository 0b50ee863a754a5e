-- What the functions of a reader, and their loops, cite.
use Rattle.std.proofs.Common.{◌≡◌, ℕ, zero, suc, ◌+◌, ◌≤◌, ◌-◌, ◌<◌, Bool, true, false, not, List, [], ◌++◌, refl, sym, ◌∙◌, ap, subst, arith, append_assoc, append-nil, add-one}
use Rattle.sw_parse_grammar.specs.Grammar.{Grammar, keep, skip, seq, alt, group, many, build, first, nullable, member, decided, Answer, Got, Unexpected, TooDeep, and_then, prepend, acted, run, inside, Text}
use Rattle.sw_parse_grammar.specs.Readers.{parse, Fails}
use Rattle.sw_parse_grammar.specs.declared.ReadError.{ReadError}
use Rattle.sw_parse_grammar.specs.declared.ReadError.TheVariants as ends
use Rattle.sw_parse_grammar.proofs.Knot.{forward, many_step, many_end, many_stop, many_deep}
use Rattle.sw_parse_grammar.proofs.Sets.{at_true, at_false}

-- One token decides each choice of the rules, and past the end of the text each kind is 0.
pub record Fit {V F : Type 0} (rules : F → Grammar V F) (t : Text V) (end : ℕ) : Type 0 where
  pub ok : (f : F) → decided rules (rules f) ≡ true
  pub past : (i : ℕ) → end ≤ i → t.kind i ≡ 0

pub prepend_twice : {V : Type 0} (u v : List V) (a : Answer V) → prepend u (prepend v a) ≡ prepend (u ++ v) a
prepend_twice u v (Got w j) = ap (λ x. Got x j) (sym (append_assoc u v w))
prepend_twice u v (Unexpected k) = refl
prepend_twice u v (TooDeep k) = refl

pub fails_prepend : {V : Type 0} (u : List V) (e : ReadError) (a : Answer V) → Fails e a → Fails e (prepend u a)
fails_prepend u ends.Memory a x = tt
fails_prepend u (ends.Unexpected k) a x = ap (prepend u) x
fails_prepend u (ends.TooDeep k) a x = ap (prepend u) x

pub fails_acted : {V : Type 0} (h : ℕ → List V → List V) (e : ReadError) (a : Answer V) → Fails e a → Fails e (acted h a)
fails_acted h ends.Memory a x = tt
fails_acted h (ends.Unexpected k) a x = ap (acted h) x
fails_acted h (ends.TooDeep k) a x = ap (acted h) x

-- fs is the first set, as a reader tests it
pub at_first : {V F : Type 0} (g : Grammar V F) (fs : List ℕ) (k : ℕ) (b : Bool) → first g ≡ fs → member k fs ≡ b → member k (first g) ≡ b
at_first g fs k b e m = subst (λ (s : List ℕ). member k s ≡ b) (sym e) m

module _ {V F : Type 0} {rules : F → Grammar V F} {t : Text V} {end : ℕ} (fit : Fit rules t end) (n : ℕ) where
  pub goes_forward : (g : Grammar V F) → decided rules g ≡ true → not (nullable g) ≡ true → (i j : ℕ) (u : List V) → parse rules t end n g i ≡ Got u j → i < j
  unfolding parse
  goes_forward g okg nn i j u e = forward rules t fit.ok end fit.past n g okg nn i j u e

  -- A loop of many g: acc is what was read from at to place.
  pub loop_step : (g : Grammar V F) → decided rules (many g) ≡ true → (acc u : List V) (at place next : ℕ) → prepend acc (parse rules t end n (many g) place) ≡ parse rules t end n (many g) at
      → member (t.kind place) (first g) ≡ true → parse rules t end n g place ≡ Got u next
      → prepend (acc ++ u) (parse rules t end n (many g) next) ≡ parse rules t end n (many g) at
  unfolding parse
  loop_step g ok acc u at place next inv m e =
      sym (prepend_twice acc u (parse rules t end n (many g) next))
      ∙ ap (prepend acc) (sym (many_step rules t fit.ok end fit.past n g ok place next u m e))
      ∙ inv

  pub loop_end : (g : Grammar V F) → decided rules (many g) ≡ true → (acc : List V) (at place : ℕ) → prepend acc (parse rules t end n (many g) place) ≡ parse rules t end n (many g) at
      → member (t.kind place) (first g) ≡ false → parse rules t end n (many g) at ≡ Got acc place
  unfolding parse
  loop_end g ok acc at place inv m = sym inv ∙ ap (prepend acc) (many_end rules t fit.ok end fit.past n g ok place m) ∙ ap (λ (x : List V). Got x place) (append-nil acc)

  pub loop_fails : (g : Grammar V F) → decided rules (many g) ≡ true → (acc : List V) (at place : ℕ) (e : ReadError) → prepend acc (parse rules t end n (many g) place) ≡ parse rules t end n (many g) at
      → member (t.kind place) (first g) ≡ true → Fails e (parse rules t end n g place) → Fails e (parse rules t end n (many g) at)
  unfolding parse
  loop_fails g ok acc at place ends.Memory inv m x = tt
  loop_fails g ok acc at place (ends.Unexpected k) inv m x =
      sym inv ∙ ap (prepend acc) (many_stop rules t fit.ok end fit.past n g ok place k m x)
  loop_fails g ok acc at place (ends.TooDeep k) inv m x =
      sym inv ∙ ap (prepend acc) (many_deep rules t fit.ok end fit.past n g ok place k m x)

-- one token, a row of two, a choice, an build and a group
module _ {V F : Type 0} (rules : F → Grammar V F) (t : Text V) (end n : ℕ) where
  pub read_tok : (s : List ℕ) (i : ℕ) → member (t.kind i) s ≡ true → parse rules t end n (keep s) i ≡ Got (t.kept i) (i + 1)
  unfolding parse
  read_tok s i at = at_true (member (t.kind i) s) _ (Unexpected i) at ∙ ap (λ (j : ℕ). Got (t.kept i) j) (sym (add-one i))

  pub read_skip : (s : List ℕ) (i : ℕ) → member (t.kind i) s ≡ true → parse rules t end n (skip s) i ≡ Got [] (i + 1)
  unfolding parse
  read_skip s i at = at_true (member (t.kind i) s) _ (Unexpected i) at ∙ ap (λ (j : ℕ). Got [] j) (sym (add-one i))

  pub read_seq : (a b : Grammar V F) (i j : ℕ) (u : List V) → parse rules t end n a i ≡ Got u j → parse rules t end n (seq a b) i ≡ prepend u (parse rules t end n b j)
  unfolding parse
  read_seq a b i j u e = ap (λ (x : Answer V). and_then x (λ v k. prepend v (run t end (inside rules t end n) b k))) e

  pub read_both : (a b : Grammar V F) (i j k : ℕ) (u v : List V) → parse rules t end n a i ≡ Got u j → parse rules t end n b j ≡ Got v k → parse rules t end n (seq a b) i ≡ Got (u ++ v) k
  read_both a b i j k u v e e2 = read_seq a b i j u e ∙ ap (prepend u) e2

  pub fails_seq : (a b : Grammar V F) (i j : ℕ) (u : List V) (e : ReadError) → parse rules t end n a i ≡ Got u j → Fails e (parse rules t end n b j) → Fails e (parse rules t end n (seq a b) i)
  fails_seq a b i j u e x y = subst (Fails e) (sym (read_seq a b i j u x)) (fails_prepend u e (parse rules t end n b j) y)

  pub fails_first : (a b : Grammar V F) (i : ℕ) (e : ReadError) → Fails e (parse rules t end n a i) → Fails e (parse rules t end n (seq a b) i)
  unfolding parse
  fails_first a b i ends.Memory x = tt
  fails_first a b i (ends.Unexpected k) x = ap (λ (x : Answer V). and_then x (λ v k. prepend v (run t end (inside rules t end n) b k))) x
  fails_first a b i (ends.TooDeep k) x = ap (λ (x : Answer V). and_then x (λ v k. prepend v (run t end (inside rules t end n) b k))) x

  pub read_act : (h : ℕ → ℕ → List V → List V) (g : Grammar V F) (i j : ℕ) (u : List V) → parse rules t end n g i ≡ Got u j → parse rules t end n (build h g) i ≡ Got (h i j u) j
  unfolding parse
  read_act h g i j u e = ap (acted (h i)) e

  pub fails_act : (h : ℕ → ℕ → List V → List V) (g : Grammar V F) (i : ℕ) (e : ReadError) → Fails e (parse rules t end n g i) → Fails e (parse rules t end n (build h g) i)
  unfolding parse
  fails_act h g i e x = fails_acted (h i) e (run t end (inside rules t end n) g i) x

  pub read_left : (a b : Grammar V F) (i : ℕ) → member (t.kind i) (first a) ≡ true → parse rules t end n (alt a b) i ≡ parse rules t end n a i
  unfolding parse
  read_left a b i at = at_true (member (t.kind i) (first a)) _ _ at

  pub read_right : (a b : Grammar V F) (i : ℕ) → member (t.kind i) (first a) ≡ false → parse rules t end n (alt a b) i ≡ parse rules t end n b i
  unfolding parse
  read_right a b i off = at_false (member (t.kind i) (first a)) _ _ off

  pub fails_left : (a b : Grammar V F) (i : ℕ) (e : ReadError) → member (t.kind i) (first a) ≡ true → Fails e (parse rules t end n a i) → Fails e (parse rules t end n (alt a b) i)
  fails_left a b i e at x = subst (Fails e) (sym (read_left a b i at)) x

  pub fails_right : (a b : Grammar V F) (i : ℕ) (e : ReadError) → member (t.kind i) (first a) ≡ false → Fails e (parse rules t end n b i) → Fails e (parse rules t end n (alt a b) i)
  fails_right a b i e off x = subst (Fails e) (sym (read_right a b i off)) x

-- what stands in brackets
module _ {V F : Type 0} (rules : F → Grammar V F) (t : Text V) (end : ℕ) where
  group_opens : (n : ℕ) (o c : List ℕ) (f : F) (i : ℕ) → 1 ≤ n → member (t.kind i) o ≡ true
      → parse rules t end n (group o f c) i ≡ and_then (parse rules t end (n - 1) (rules f) (i + 1)) (λ u k. elim (member (t.kind k) c) [ true ↦ Got u (suc k) | false ↦ Unexpected k ])
  unfolding parse
  group_opens zero o c f i l at = absurd (omega arith)
  group_opens (suc n) o c f i l at =
      at_true (member (t.kind i) o) _ (Unexpected i) at
      ∙ ap (λ (m : ℕ). and_then (run t end (inside rules t end m) (rules f) (suc i)) (λ u k. elim (member (t.kind k) c) [ true ↦ Got u (suc k) | false ↦ Unexpected k ])) one_less
      ∙ ap (λ (j : ℕ). and_then (run t end (inside rules t end (suc n - 1)) (rules f) j) (λ u k. elim (member (t.kind k) c) [ true ↦ Got u (suc k) | false ↦ Unexpected k ])) (sym (add-one i))
    where
      one_less : n ≡ suc n - 1
      one_less = omega arith

  pub group_none : (n : ℕ) (o c : List ℕ) (f : F) (i : ℕ) → member (t.kind i) o ≡ false → parse rules t end n (group o f c) i ≡ Unexpected i
  unfolding parse
  group_none n o c f i off = at_false (member (t.kind i) o) _ (Unexpected i) off

  pub group_deep : (n : ℕ) (o c : List ℕ) (f : F) (i : ℕ) → n ≡ 0 → member (t.kind i) o ≡ true → parse rules t end n (group o f c) i ≡ TooDeep i
  unfolding parse
  group_deep zero o c f i e at = at_true (member (t.kind i) o) _ (Unexpected i) at
  group_deep (suc n) o c f i e at = absurd (cc)

  pub group_got : (n : ℕ) (o c : List ℕ) (f : F) (i k : ℕ) (u : List V) → 1 ≤ n → member (t.kind i) o ≡ true → parse rules t end (n - 1) (rules f) (i + 1) ≡ Got u k → member (t.kind k) c ≡ true
      → parse rules t end n (group o f c) i ≡ Got u (k + 1)
  group_got n o c f i k u l at e closed =
      group_opens n o c f i l at
      ∙ ap (λ (a : Answer V). and_then a (λ u k. elim (member (t.kind k) c) [ true ↦ Got u (suc k) | false ↦ Unexpected k ])) e
      ∙ at_true (member (t.kind k) c) (Got u (suc k)) _ closed
      ∙ ap (λ (j : ℕ). Got u j) (sym (add-one k))

  pub group_unclosed : (n : ℕ) (o c : List ℕ) (f : F) (i k : ℕ) (u : List V) → 1 ≤ n → member (t.kind i) o ≡ true → parse rules t end (n - 1) (rules f) (i + 1) ≡ Got u k → member (t.kind k) c ≡ false
      → parse rules t end n (group o f c) i ≡ Unexpected k
  group_unclosed n o c f i k u l at e off =
      group_opens n o c f i l at
      ∙ ap (λ (a : Answer V). and_then a (λ u k. elim (member (t.kind k) c) [ true ↦ Got u (suc k) | false ↦ Unexpected k ])) e
      ∙ at_false (member (t.kind k) c) (Got u (suc k)) _ off

  pub group_fails : (n : ℕ) (o c : List ℕ) (f : F) (i : ℕ) (e : ReadError) → 1 ≤ n → member (t.kind i) o ≡ true → Fails e (parse rules t end (n - 1) (rules f) (i + 1)) → Fails e (parse rules t end n (group o f c) i)
  group_fails n o c f i ends.Memory l at x = tt
  group_fails n o c f i (ends.Unexpected k) l at x = group_opens n o c f i l at ∙ ap (λ (a : Answer V). and_then a (λ u k. elim (member (t.kind k) c) [ true ↦ Got u (suc k) | false ↦ Unexpected k ])) x
  group_fails n o c f i (ends.TooDeep k) l at x = group_opens n o c f i l at ∙ ap (λ (a : Answer V). and_then a (λ u k. elim (member (t.kind k) c) [ true ↦ Got u (suc k) | false ↦ Unexpected k ])) x
