-- The reader of decided rules is right at every form.
use Rattle.std.proofs.Common.{◌≡◌, ℕ, zero, suc, ◌+◌, ◌-◌, ◌≤◌, ◌<◌, Bool, true, false, not, ◌&&◌, ◌⊎◌, List, [], inl, inr, refl, sym, ◌∙◌, ap, subst, arith}
use Rattle.sw_parse_grammar.specs.Grammar.{Grammar, many, nullable, first, repeat, and_then, prepend, more, decided, disjoint, member, Text, DerivesIn, BeginsIn, Derives, Begins, DerivesAny, BeginsAny, Answer, Got, Unexpected, TooDeep, run, inside, Meets, Reads}
use Rattle.sw_parse_grammar.proofs.Laws.{derives_le, begins_le, begins_none, derives_begins, derives_more, derives_null, le_cases}
use Rattle.sw_parse_grammar.proofs.Sets.{not_null, and_both, not_false, at_true, at_false}
use Rattle.sw_parse_grammar.proofs.Reader.{derives_map, begins_map, RightInside, run_right}

lt_or_le : (a b : ℕ) → (a < b) ⊎ (b ≤ a)
lt_or_le a b = grind arith

module _ {V F : Type 0} (rules : F → Grammar V F) (t : Text V) (ok : (f : F) → decided rules (rules f) ≡ true) where
  record Laws (n : ℕ) : Type 0 where
    le : (f : F) (i j : ℕ) (u : List V) → Derives rules t n f i j u → i ≤ j
    le' : (f : F) (i m : ℕ) → Begins rules t n f i m → i ≤ m
    begins : (f : F) (i j : ℕ) (u : List V) → Derives rules t n f i j u → Begins rules t n f i j
    goes_on : (f : F) (i j m : ℕ) (u : List V) → Derives rules t n f i j u → Begins rules t n f i m → j < m → member (t.kind j) (more (rules f)) ≡ true

  laws : (n : ℕ) → Laws n
  laws zero = record { le = λ f i j u x. absurd x; le' = λ f i m x. absurd x; begins = λ f i j u x. absurd x; goes_on = λ f i j m u x y l. absurd x }
  laws (suc n) = record {
    le = λ f i j u x. derives_le t (Derives rules t n) (Begins rules t n) (laws n).le (laws n).le' (rules f) i j u x;
    le' = λ f i m x. begins_le t (Derives rules t n) (Begins rules t n) (laws n).le (laws n).le' (rules f) i m x;
    begins = λ f i j u x. derives_begins t (Derives rules t n) (Begins rules t n) (laws n).begins (rules f) i j u x;
    goes_on = λ f i j m u x y l. derives_more rules t (Derives rules t n) (Begins rules t n) (laws n).le (laws n).le' (laws n).begins (laws n).goes_on (rules f) (ok f) i j m u x y l;
  }

  -- more levels derive and begin no less
  record Lifts (n m : ℕ) : Type 0 where
    derives : (f : F) (i j : ℕ) (u : List V) → Derives rules t n f i j u → Derives rules t m f i j u
    begins : (f : F) (i j : ℕ) → Begins rules t n f i j → Begins rules t m f i j

  lifts : (n m : ℕ) → n ≤ m → Lifts n m
  lifts zero m le = record { derives = λ f i j u x. absurd x; begins = λ f i j x. absurd x }
  lifts (suc n) zero le = absurd (omega arith)
  lifts (suc n) (suc m) le =
      let l = lifts n m (omega arith) in
      record {
        derives = λ f i j u x. derives_map t (Derives rules t n) (Derives rules t m) (Begins rules t n) (Begins rules t m) l.derives l.begins (rules f) i j u x;
        begins = λ f i j x. begins_map t (Derives rules t n) (Derives rules t m) (Begins rules t n) (Begins rules t m) l.derives l.begins (rules f) i j x;
      }

  any_le : (f : F) (i j : ℕ) (u : List V) → DerivesAny rules t f i j u → i ≤ j
  any_le f i j u (n, x) = (laws n).le f i j u x

  any_le' : (f : F) (i m : ℕ) → BeginsAny rules t f i m → i ≤ m
  any_le' f i m (n, x) = (laws n).le' f i m x

  any_none : (f : F) (i : ℕ) → BeginsAny rules t f i i
  any_none f i = (1, begins_none t (Derives rules t 0) (Begins rules t 0) (rules f) i)

  any_begins : (f : F) (i j : ℕ) (u : List V) → DerivesAny rules t f i j u → BeginsAny rules t f i j
  any_begins f i j u (n, x) = (n, (laws n).begins f i j u x)

  any_more : (f : F) (i j m : ℕ) (u : List V) → DerivesAny rules t f i j u → BeginsAny rules t f i m → j < m → member (t.kind j) (more (rules f)) ≡ true
  any_more f i j m u (n, x) (n2, y) l =
      (laws (n + n2)).goes_on f i j m u ((lifts n (n + n2) (omega arith)).derives f i j u x) ((lifts n2 (n + n2) (omega arith)).begins f i m y) l

  -- one level is unrolled
  any_open : (f : F) (i j : ℕ) (u : List V) → DerivesAny rules t f i j u → DerivesIn t (DerivesAny rules t) (rules f) i j u
  any_open f i j u (zero, x) = absurd x
  any_open f i j u (suc n, x) = derives_map t (Derives rules t n) (DerivesAny rules t) (Begins rules t n) (BeginsAny rules t) (λ g a b v y. (n, y)) (λ g a b y. (n, y)) (rules f) i j u x

  any_open' : (f : F) (i m : ℕ) → BeginsAny rules t f i m → BeginsIn t (DerivesAny rules t) (BeginsAny rules t) (rules f) i m
  any_open' f i m (zero, x) = absurd x
  any_open' f i m (suc n, x) = begins_map t (Derives rules t n) (DerivesAny rules t) (Begins rules t n) (BeginsAny rules t) (λ g a b v y. (n, y)) (λ g a b y. (n, y)) (rules f) i m x

  module _ (end : ℕ) (past : (i : ℕ) → end ≤ i → t.kind i ≡ 0) where
    abbrev InsideRight : ℕ → F → ℕ → Answer V → Type 0
    InsideRight n f i a = RightInside rules t end (Derives rules t n) (Derives rules t (suc n)) (DerivesAny rules t) (Begins rules t n) (Begins rules t (suc n)) (BeginsAny rules t) any_le any_le' any_none any_begins (laws n).begins any_more
        (lifts n (suc n) (omega arith)).derives (lifts n (suc n) (omega arith)).begins (λ f i j u x. (suc n, x)) (λ f i j x. (suc n, x)) (inside rules t end n) f i a

    reads_of : (n : ℕ) → ((f : F) (i : ℕ) → InsideRight n f i (inside rules t end n f i)) → (f : F) (i : ℕ) → Reads rules t n f i (run t end (inside rules t end n) (rules f) i)
    reads_of n each f i =
        go (run t end (inside rules t end n) (rules f) i)
        (run_right rules t end (Derives rules t n) (Derives rules t (suc n)) (DerivesAny rules t) (Begins rules t n) (Begins rules t (suc n)) (BeginsAny rules t) any_le any_le' any_none any_begins (laws n).begins any_more
        (lifts n (suc n) (omega arith)).derives (lifts n (suc n) (omega arith)).begins (λ f i j u x. (suc n, x)) (λ f i j x. (suc n, x)) (inside rules t end n) past each (rules f) (ok f) i)
      where
        go : (a : Answer V)
            → Meets (DerivesIn t (Derives rules t n) (rules f) i) (BeginsIn t (Derives rules t n) (Begins rules t n) (rules f) i) (BeginsIn t (Derives rules t (suc n)) (Begins rules t (suc n)) (rules f) i) (DerivesIn t (DerivesAny rules t) (rules f) i) (BeginsIn t (DerivesAny rules t) (BeginsAny rules t) (rules f) i) a
            → Reads rules t n f i a
        go (Got w j) r = (r.0, (λ m x. r.1 m (any_open' f i m x)), (λ v x. r.2 v (any_open f i j v x)))
        go (Unexpected k) r = (r.0, (λ m x. r.1 m (any_open' f i m x)), (λ v x. r.2 v (any_open f i k v x)))
        go (TooDeep k) r = r

    inside_of_reads : (n : ℕ) (f : F) (i : ℕ) (a : Answer V) → Reads rules t n f (suc i) a → InsideRight (suc n) f i a
    inside_of_reads n f i (Got w j) r = r
    inside_of_reads n f i (Unexpected k) r = r
    inside_of_reads n f i (TooDeep k) r = (r.0, inr r.1, r.2)

    inside_right : (n : ℕ) (f : F) (i : ℕ) → InsideRight n f i (inside rules t end n f i)
    inside_right zero f i = (begins_none t (Derives rules t 0) (Begins rules t 0) (rules f) (suc i), inl refl, λ m x. absurd x)
    inside_right (suc n) f i = inside_of_reads n f i (run t end (inside rules t end n) (rules f) (suc i)) (reads_of n (inside_right n) f (suc i))

    -- The reader of a form is right.
    pub reads : (n : ℕ) (f : F) (i : ℕ) → Reads rules t n f i (run t end (inside rules t end n) (rules f) i)
    reads n f i = reads_of n (inside_right n) f i

    right_of : (n : ℕ) (g : Grammar V F) → decided rules g ≡ true → (i : ℕ)
        → Meets (DerivesIn t (Derives rules t n) g i) (BeginsIn t (Derives rules t n) (Begins rules t n) g i) (BeginsIn t (Derives rules t (suc n)) (Begins rules t (suc n)) g i) (DerivesIn t (DerivesAny rules t) g i) (BeginsIn t (DerivesAny rules t) (BeginsAny rules t) g i) (run t end (inside rules t end n) g i)
    right_of n g okg i =
        run_right rules t end (Derives rules t n) (Derives rules t (suc n)) (DerivesAny rules t) (Begins rules t n) (Begins rules t (suc n)) (BeginsAny rules t) any_le any_le' any_none any_begins (laws n).begins any_more
        (lifts n (suc n) (omega arith)).derives (lifts n (suc n) (omega arith)).begins (λ f i j u x. (suc n, x)) (λ f i j x. (suc n, x)) (inside rules t end n) past (inside_right n) g okg i

    -- a reader that can't read nothing goes forward
    pub forward : (n : ℕ) (g : Grammar V F) → decided rules g ≡ true → not (nullable g) ≡ true → (i j : ℕ) (u : List V)
        → run t end (inside rules t end n) g i ≡ Got u j → i < j
    forward n g okg nn i j u e = go (run t end (inside rules t end n) g i) (right_of n g okg i) e
      where
        go : (a : Answer V)
            → Meets (DerivesIn t (Derives rules t n) g i) (BeginsIn t (Derives rules t n) (Begins rules t n) g i) (BeginsIn t (Derives rules t (suc n)) (Begins rules t (suc n)) g i) (DerivesIn t (DerivesAny rules t) g i) (BeginsIn t (DerivesAny rules t) (BeginsAny rules t) g i) a
            → a ≡ Got u j → i < j
        go (Got w k) r e =
            let l : i ≤ k = derives_le t (Derives rules t n) (Begins rules t n) (laws n).le (laws n).le' g i k w r.0 in
            let jk : k ≡ j = cc in
            elim (le_cases i k l) [
              | inl lt ↦ omega arith
              | inr e2 ↦ absurd (not_null (nullable g) nn (derives_null rules t (Derives rules t n) (Begins rules t n) (laws n).le (laws n).le' (laws n).begins (laws n).goes_on g i k w r.0 (sym e2)))
            ]
        go (Unexpected k) r e = absurd (cc)
        go (TooDeep k) r e = absurd (cc)

    module _ (n : ℕ) (g : Grammar V F) (okm : decided rules (many g) ≡ true) where
      parts : (decided rules g ≡ true) × (not (nullable g) ≡ true) × (not (member 0 (first g)) ≡ true)
      parts =
          let oks0 = and_both (decided rules g && (disjoint (more g) (first g) && not (nullable g))) (not (member 0 (first g))) okm in
          let oks = and_both (decided rules g) (disjoint (more g) (first g) && not (nullable g)) oks0.0 in
          let ok2 = and_both (disjoint (more g) (first g)) (not (nullable g)) oks.1 in
          (oks.0, ok2.1, oks0.1)

      off : (i : ℕ) → end ≤ i → member (t.kind i) (first g) ≡ false
      off i l = subst (λ (z : ℕ). member z (first g) ≡ false) (sym (past i l)) (not_false (member 0 (first g)) parts.2)

      fuel : (m m' i : ℕ) → end < m + i → end < m' + i
          → repeat (λ k. member (t.kind k) (first g)) (run t end (inside rules t end n) g) m i ≡ repeat (λ k. member (t.kind k) (first g)) (run t end (inside rules t end n) g) m' i
      fuel zero zero i l l' = refl
      fuel zero (suc m') i l l' = sym (at_false (member (t.kind i) (first g)) _ (Got [] i) (off i (omega arith)))
      fuel (suc m) zero i l l' = at_false (member (t.kind i) (first g)) _ (Got [] i) (off i (omega arith))
      fuel (suc m) (suc m') i l l' = choice (λ j e. fuel m m' j e) (run t end (inside rules t end n) g i) refl (member (t.kind i) (first g))
        where
          choice : ((j : ℕ) → end < m + j → end < m' + j → repeat (λ k. member (t.kind k) (first g)) (run t end (inside rules t end n) g) m j ≡ repeat (λ k. member (t.kind k) (first g)) (run t end (inside rules t end n) g) m' j)
              → (a : Answer V) → run t end (inside rules t end n) g i ≡ a → (x : Bool)
              → elim x as (λ _. Answer V) [ true ↦ and_then a (λ u j. prepend u (repeat (λ k. member (t.kind k) (first g)) (run t end (inside rules t end n) g) m j)) | false ↦ Got [] i ]
              ≡ elim x as (λ _. Answer V) [ true ↦ and_then a (λ u j. prepend u (repeat (λ k. member (t.kind k) (first g)) (run t end (inside rules t end n) g) m' j)) | false ↦ Got [] i ]
          choice ih a e false = refl
          choice ih (Got u j) e true = let lt = forward n g parts.0 parts.1 i j u e in ap (prepend u) (ih j (omega arith) (omega arith))
          choice ih (Unexpected k) e true = refl
          choice ih (TooDeep k) e true = refl

      before_end : (i : ℕ) → member (t.kind i) (first g) ≡ true → i < end
      before_end i at = elim (lt_or_le i end) [ inl l ↦ l | inr l ↦ (let x = off i l in absurd (cc)) ]

      -- the loop of a reader takes one more item
      pub many_step : (i j : ℕ) (u : List V) → member (t.kind i) (first g) ≡ true → run t end (inside rules t end n) g i ≡ Got u j
          → run t end (inside rules t end n) (many g) i ≡ prepend u (run t end (inside rules t end n) (many g) j)
      many_step i j u at e =
          let lt = forward n g parts.0 parts.1 i j u e in
          let inside_end = before_end i at in
          at_true (member (t.kind i) (first g)) _ (Got [] i) at
          ∙ ap (λ (a : Answer V). and_then a (λ v k. prepend v (repeat (λ k. member (t.kind k) (first g)) (run t end (inside rules t end n) g) (end - i) k))) e
          ∙ ap (prepend u) (fuel (end - i) (suc (end - j)) j (omega arith) (omega arith))

      pub many_end : (i : ℕ) → member (t.kind i) (first g) ≡ false → run t end (inside rules t end n) (many g) i ≡ Got [] i
      many_end i e = at_false (member (t.kind i) (first g)) _ (Got [] i) e

      pub many_stop : (i k : ℕ) → member (t.kind i) (first g) ≡ true → run t end (inside rules t end n) g i ≡ Unexpected k → run t end (inside rules t end n) (many g) i ≡ Unexpected k
      many_stop i k at e =
          at_true (member (t.kind i) (first g)) _ (Got [] i) at
          ∙ ap (λ (a : Answer V). and_then a (λ v k. prepend v (repeat (λ k. member (t.kind k) (first g)) (run t end (inside rules t end n) g) (end - i) k))) e

      pub many_deep : (i k : ℕ) → member (t.kind i) (first g) ≡ true → run t end (inside rules t end n) g i ≡ TooDeep k → run t end (inside rules t end n) (many g) i ≡ TooDeep k
      many_deep i k at e =
          at_true (member (t.kind i) (first g)) _ (Got [] i) at
          ∙ ap (λ (a : Answer V). and_then a (λ v k. prepend v (repeat (λ k. member (t.kind k) (first g)) (run t end (inside rules t end n) g) (end - i) k))) e
