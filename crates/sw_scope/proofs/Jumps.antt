-- The steps of a search, from a frame to the one on which it stands.
use Rattle.std.proofs.Common.{◌≡◌, ℕ, zero, suc, ◌+◌, ◌-◌, ◌<◌, ◌≤◌, ◌==◌, Bool, true, false, cond, ◌&&◌, List, [], ◌∷◌, length, take, drop, get_or, Option, Some, None, refl, sym, ◌∙◌, ap, subst, arith}
use Rattle.std.proofs.lemmas.Bool.Decides.{nat_tests}
use Rattle.std.proofs.lemmas.List.{length-take-le, take-take}
use Rattle.sw_scope.specs.declared.mark.FrameMark.{FrameMark}
use Rattle.sw_scope.specs.declared.mark.FrameKind.TheVariants.{Flow}
use Rattle.sw_scope.specs.Frames.{Variable, place, is_flow}
use Rattle.sw_scope.specs.Cut.{back, IsCut, StandsLower, found, shifted, flows}
use Rattle.sw_scope.specs.Index.{AreIndexed}
use Rattle.sw_scope.proofs.Cuts.{length-back, back-take}

-- what a read of a mark gives where there is none
abbrev pub none : FrameMark
none = record { kind = Flow; below = 0; start = 0; index = None }

-- the marks of the first frames, the last first
abbrev pub lower : List FrameMark → ℕ → List FrameMark
lower ms n = back (take n ms)

-- where the frame behind the first n starts
abbrev pub start_at : List FrameMark → ℕ → ℕ
start_at ms n = (get_or ms n none).start

length-lower : (ms : List FrameMark) (n : ℕ) → n ≤ length ms → length (lower ms n) ≡ n
length-lower ms n le = length-back (take n ms) ∙ length-take-le n ms le

-- ---- one frame of a search

found_here : (n : ℕ) (m : FrameMark) (ms : List FrameMark) (vs : List Variable) (name : List ℕ) → n ≡ suc (length ms)
    → found n (m ∷ ms) vs name ≡ shifted m.start (place (drop m.start vs) name) (found m.below ms (take m.start vs) name)
found_here n m ms vs name is =
    let same : (n == suc (length ms)) ≡ true = grind (arith, nat_tests) in
    ap (λ b. cond b (shifted m.start (place (drop m.start vs) name) (found m.below ms (take m.start vs) name)) (found n ms (take m.start vs) name)) same

found_past : (n : ℕ) (m : FrameMark) (ms : List FrameMark) (vs : List Variable) (name : List ℕ) → n ≤ length ms → found n (m ∷ ms) vs name ≡ found n ms (take m.start vs) name
found_past n m ms vs name le =
    let other : (n == suc (length ms)) ≡ false = grind (arith, nat_tests) in
    ap (λ b. cond b (shifted m.start (place (drop m.start vs) name) (found m.below ms (take m.start vs) name)) (found n ms (take m.start vs) name)) other

found_top : (ms : List FrameMark) (vs : List Variable) (name : List ℕ) → found 0 ms vs name ≡ None
found_top [] vs name = refl
found_top (m ∷ ms) vs name = found_past 0 m ms vs name (omega arith) ∙ found_top ms (take m.start vs) name

flows_here : (n : ℕ) (m : FrameMark) (ms : List FrameMark) → n ≡ suc (length ms) → flows n (m ∷ ms) ≡ (is_flow m.kind && flows m.below ms)
flows_here n m ms is =
    let same : (n == suc (length ms)) ≡ true = grind (arith, nat_tests) in
    ap (λ b. cond b (is_flow m.kind && flows m.below ms) (flows n ms)) same

flows_past : (n : ℕ) (m : FrameMark) (ms : List FrameMark) → n ≤ length ms → flows n (m ∷ ms) ≡ flows n ms
flows_past n m ms le =
    let other : (n == suc (length ms)) ≡ false = grind (arith, nat_tests) in
    ap (λ b. cond b (is_flow m.kind && flows m.below ms) (flows n ms)) other

flows_top : (ms : List FrameMark) → flows 0 ms ≡ true
flows_top [] = refl
flows_top (m ∷ ms) = flows_past 0 m ms (omega arith) ∙ flows_top ms

-- ---- frames that aren't seen are jumped over

module _ (ms : List FrameMark) where
  pub jump_cut : (d k l : ℕ) → l ≡ k + d → l < length ms → IsCut (lower ms l) (start_at ms l) → IsCut (lower ms k) (start_at ms k) × (start_at ms k ≤ start_at ms l)
  jump_cut zero k l e lt is =
      let same : l ≡ k = omega arith in
      subst (λ (i : ℕ). IsCut (lower ms i) (start_at ms i) × (start_at ms i ≤ start_at ms l)) same (is, omega arith)
  jump_cut (suc d) k l e lt is =
      let same : l ≡ suc (k + d) = omega arith in
      let opened : IsCut (get_or ms (k + d) none ∷ lower ms (k + d)) (start_at ms l) =
      subst (λ (xs : List FrameMark). IsCut xs (start_at ms l)) (ap (lower ms) same ∙ back-take ms (k + d) none (omega arith)) is in
      let rest = jump_cut d k (k + d) refl (omega arith) opened.2 in
      (rest.0, omega (arith, rest.1, opened.0))

  pub jump_found : (d k l : ℕ) (vs : List Variable) (name : List ℕ) → l ≡ k + d → l < length ms → IsCut (lower ms l) (start_at ms l)
      → found k (lower ms l) (take (start_at ms l) vs) name ≡ found k (lower ms k) (take (start_at ms k) vs) name
  jump_found zero k l vs name e lt is =
      let same : l ≡ k = omega arith in
      ap (λ i. found k (lower ms i) (take (start_at ms i) vs) name) same
  jump_found (suc d) k l vs name e lt is =
      let same : l ≡ suc (k + d) = omega arith in
      let open_is : lower ms l ≡ get_or ms (k + d) none ∷ lower ms (k + d) = ap (lower ms) same ∙ back-take ms (k + d) none (omega arith) in
      let opened : IsCut (get_or ms (k + d) none ∷ lower ms (k + d)) (start_at ms l) = subst (λ (xs : List FrameMark). IsCut xs (start_at ms l)) open_is is in
      let count : length (lower ms (k + d)) ≡ k + d = length-lower ms (k + d) (omega arith) in
      ap (λ xs. found k xs (take (start_at ms l) vs) name) open_is
      ∙ found_past k (get_or ms (k + d) none) (lower ms (k + d)) (take (start_at ms l) vs) name (omega (arith, count))
      ∙ ap (λ ws. found k (lower ms (k + d)) ws name) (take-take (start_at ms (k + d)) (start_at ms l) vs opened.0)
      ∙ jump_found d k (k + d) vs name refl (omega arith) opened.2

  pub jump_indexed : (d k l : ℕ) (vs : List Variable) → l ≡ k + d → l < length ms → IsCut (lower ms l) (start_at ms l) → AreIndexed (lower ms l) (take (start_at ms l) vs)
      → AreIndexed (lower ms k) (take (start_at ms k) vs)
  jump_indexed zero k l vs e lt cut is =
      let same : l ≡ k = omega arith in
      subst (λ (i : ℕ). AreIndexed (lower ms i) (take (start_at ms i) vs)) same is
  jump_indexed (suc d) k l vs e lt cut is =
      let same : l ≡ suc (k + d) = omega arith in
      let open_is : lower ms l ≡ get_or ms (k + d) none ∷ lower ms (k + d) = ap (lower ms) same ∙ back-take ms (k + d) none (omega arith) in
      let opened : IsCut (get_or ms (k + d) none ∷ lower ms (k + d)) (start_at ms l) = subst (λ (xs : List FrameMark). IsCut xs (start_at ms l)) open_is cut in
      let indexed : AreIndexed (get_or ms (k + d) none ∷ lower ms (k + d)) (take (start_at ms l) vs) = subst (λ (xs : List FrameMark). AreIndexed xs (take (start_at ms l) vs)) open_is is in
      jump_indexed d k (k + d) vs refl (omega arith) opened.2
      (subst (λ (ws : List Variable). AreIndexed (lower ms (k + d)) ws) (take-take (start_at ms (k + d)) (start_at ms l) vs opened.0) indexed.1)

  pub jump_lower : (d k l : ℕ) → l ≡ k + d → l ≤ length ms → StandsLower (lower ms l) → StandsLower (lower ms k)
  jump_lower zero k l e le is = let same : l ≡ k = omega arith in subst (λ (i : ℕ). StandsLower (lower ms i)) same is
  jump_lower (suc d) k l e le is =
      let same : l ≡ suc (k + d) = omega arith in
      let opened : StandsLower (get_or ms (k + d) none ∷ lower ms (k + d)) =
      subst (λ (xs : List FrameMark). StandsLower xs) (ap (lower ms) same ∙ back-take ms (k + d) none (omega arith)) is in
      jump_lower d k (k + d) refl (omega arith) opened.1

  pub jump_flows : (d k l : ℕ) → l ≡ k + d → l ≤ length ms → flows k (lower ms l) ≡ flows k (lower ms k)
  jump_flows zero k l e le = let same : l ≡ k = omega arith in ap (λ i. flows k (lower ms i)) same
  jump_flows (suc d) k l e le =
      let same : l ≡ suc (k + d) = omega arith in
      let count : length (lower ms (k + d)) ≡ k + d = length-lower ms (k + d) (omega arith) in
      ap (λ xs. flows k xs) (ap (lower ms) same ∙ back-take ms (k + d) none (omega arith))
      ∙ flows_past k (get_or ms (k + d) none) (lower ms (k + d)) (omega (arith, count)) ∙ jump_flows d k (k + d) refl (omega arith)

  -- ---- the frame of a number, and the search from it on

  abbrev pub mark_of : ℕ → FrameMark
  mark_of n = get_or ms (n - 1) none

  -- what a read gives is the same for each default
  pub read : (i : ℕ) (m d : FrameMark) → i < length ms → get_or ms i m ≡ get_or ms i d
  read i m d lt = same ms i lt
    where
      same : (xs : List FrameMark) (k : ℕ) → k < length xs → get_or xs k m ≡ get_or xs k d
      same [] k l = absurd (omega (arith, l))
      same (x ∷ xs) zero l = refl
      same (x ∷ xs) (suc k) l = same xs k (omega (arith, l))

  pub mark_is : (n : ℕ) (m : FrameMark) → 0 < n → n ≤ length ms → m ≡ get_or ms (n - 1) m → m ≡ mark_of n
  mark_is n m some le is = is ∙ read (n - 1) m none (omega arith)

  opens : (n : ℕ) → 0 < n → n ≤ length ms → lower ms n ≡ mark_of n ∷ lower ms (n - 1)
  opens n some le = let same : n ≡ suc (n - 1) = omega arith in ap (lower ms) same ∙ back-take ms (n - 1) none (omega arith)

  pub cut_of : (n end : ℕ) → 0 < n → n ≤ length ms → IsCut (lower ms n) end → IsCut (mark_of n ∷ lower ms (n - 1)) end
  cut_of n end some le is = subst (λ (xs : List FrameMark). IsCut xs end) (opens n some le) is

  pub below_of : (n end : ℕ) → 0 < n → n ≤ length ms → IsCut (lower ms n) end → (mark_of n).below < n
  below_of n end some le is = let is_cut = cut_of n end some le is in omega (arith, is_cut.1, length-lower ms (n - 1) (omega arith))

  abbrev pub rest : ℕ → ℕ → List Variable → List ℕ → Option ℕ
  rest n end vs name = found n (lower ms n) (take end vs) name

  abbrev pub part : ℕ → ℕ → List Variable → List ℕ → Option ℕ
  part n end vs name = place (drop (mark_of n).start (take end vs)) name

  opened_at : (n end : ℕ) (vs : List Variable) (name : List ℕ) (o : Option ℕ) → 0 < n → n ≤ length ms → (mark_of n).start ≤ end → o ≡ rest n end vs name
      → o ≡ shifted (mark_of n).start (part n end vs name) (found (mark_of n).below (lower ms (n - 1)) (take (mark_of n).start vs) name)
  opened_at n end vs name o some le inside e =
      let count : length (lower ms (n - 1)) ≡ n - 1 = length-lower ms (n - 1) (omega arith) in
      e ∙ ap (λ xs. found n xs (take end vs) name) (opens n some le) ∙ found_here n (mark_of n) (lower ms (n - 1)) (take end vs) name (omega (arith, count))
      ∙ ap (λ l. shifted (mark_of n).start (part n end vs name) (found (mark_of n).below (lower ms (n - 1)) l name)) (take-take (mark_of n).start end vs inside)

  pub rest_found : (n end i : ℕ) (vs : List Variable) (name : List ℕ) (o : Option ℕ) → 0 < n → n ≤ length ms → (mark_of n).start ≤ end → o ≡ rest n end vs name
      → Some i ≡ part n end vs name → Some ((mark_of n).start + i) ≡ o
  rest_found n end i vs name o some le inside e p =
      sym (opened_at n end vs name o some le inside e ∙ ap (λ q. shifted (mark_of n).start q (found (mark_of n).below (lower ms (n - 1)) (take (mark_of n).start vs) name)) (sym p))

  pub indexed_of : (n end : ℕ) (vs : List Variable) → 0 < n → n ≤ length ms → AreIndexed (lower ms n) (take end vs) → AreIndexed (mark_of n ∷ lower ms (n - 1)) (take end vs)
  indexed_of n end vs some le is = subst (λ (xs : List FrameMark). AreIndexed xs (take end vs)) (opens n some le) is

  -- what holds at the frame on which this one stands
  pub record IsBelow (vs : List Variable) (name : List ℕ) (o : Option ℕ) (k : ℕ) : Type 0 where
    pub within : k ≤ length ms
    pub end_within : start_at ms k ≤ length vs
    pub are_indexed : AreIndexed (lower ms k) (take (start_at ms k) vs)
    pub is_cut : IsCut (lower ms k) (start_at ms k)
    pub is_rest : o ≡ found k (lower ms k) (take (start_at ms k) vs) name

  pub rest_below : (n end : ℕ) (vs : List Variable) (name : List ℕ) (o : Option ℕ) → 0 < n → n ≤ length ms → end ≤ length vs → IsCut (lower ms n) end
      → AreIndexed (lower ms n) (take end vs) → o ≡ rest n end vs name → None ≡ part n end vs name → IsBelow vs name o (mark_of n).below
  rest_below n end vs name o some le inside is indexed e p =
      let m : FrameMark = mark_of n in
      let opened = cut_of n end some le is in
      let lt : m.below < n = below_of n end some le is in
      let apart : n - 1 ≡ m.below + ((n - 1) - m.below) = omega (arith, lt) in
      let jump = jump_cut ((n - 1) - m.below) m.below (n - 1) apart (omega arith) opened.2 in
      record {
        within = omega (arith, lt, le);
        end_within = omega (arith, jump.1, opened.0, inside);
        are_indexed = jump_indexed ((n - 1) - m.below) m.below (n - 1) vs apart (omega arith) opened.2
            (subst (λ (ws : List Variable). AreIndexed (lower ms (n - 1)) ws) (take-take m.start end vs opened.0) (indexed_of n end vs some le indexed).1);
        is_cut = jump.0;
        is_rest = opened_at n end vs name o some le opened.0 e ∙ ap (λ q. shifted m.start q (found m.below (lower ms (n - 1)) (take m.start vs) name)) (sym p)
            ∙ jump_found ((n - 1) - m.below) m.below (n - 1) vs name apart (omega arith) opened.2;
      }

  pub rest_end : (n end : ℕ) (vs : List Variable) (name : List ℕ) (o : Option ℕ) → n ≡ 0 → o ≡ rest n end vs name → None ≡ o
  rest_end n end vs name o top e = sym (e ∙ ap (λ k. found k (lower ms n) (take end vs) name) top ∙ found_top (lower ms n) (take end vs) name)

  -- ---- the same for kinds

  pub lower_of : (n : ℕ) → 0 < n → n ≤ length ms → StandsLower (lower ms n) → (mark_of n).below < n
  lower_of n some le is =
      let opened : StandsLower (mark_of n ∷ lower ms (n - 1)) = subst (λ (xs : List FrameMark). StandsLower xs) (opens n some le) is in
      omega (arith, opened.0, length-lower ms (n - 1) (omega arith))

  flows_at : (n : ℕ) (b : Bool) → 0 < n → n ≤ length ms → b ≡ flows n (lower ms n) → b ≡ (is_flow (mark_of n).kind && flows (mark_of n).below (lower ms (n - 1)))
  flows_at n b some le e =
      let count : length (lower ms (n - 1)) ≡ n - 1 = length-lower ms (n - 1) (omega arith) in
      e ∙ ap (flows n) (opens n some le) ∙ flows_here n (mark_of n) (lower ms (n - 1)) (omega (arith, count))

  pub flows_stop : (n : ℕ) (b : Bool) → 0 < n → n ≤ length ms → b ≡ flows n (lower ms n) → is_flow (mark_of n).kind ≡ false → false ≡ b
  flows_stop n b some le e other = sym (flows_at n b some le e ∙ ap (λ f. f && flows (mark_of n).below (lower ms (n - 1))) other)

  pub record FlowsBelow (b : Bool) (k : ℕ) : Type 0 where
    pub within : k ≤ length ms
    pub is_lower : StandsLower (lower ms k)
    pub is_rest : b ≡ flows k (lower ms k)

  pub flows_below : (n : ℕ) (b : Bool) → 0 < n → n ≤ length ms → StandsLower (lower ms n) → b ≡ flows n (lower ms n) → is_flow (mark_of n).kind ≡ true → FlowsBelow b (mark_of n).below
  flows_below n b some le is e flow =
      let m : FrameMark = mark_of n in
      let lt : m.below < n = lower_of n some le is in
      record {
        within = omega (arith, lt, le);
        is_lower = jump_lower (n - m.below) m.below n (omega (arith, lt)) le is;
        is_rest = flows_at n b some le e ∙ ap (λ f. f && flows m.below (lower ms (n - 1))) flow ∙ jump_flows ((n - 1) - m.below) m.below (n - 1) (omega (arith, lt)) (omega arith);
      }

  pub flows_end : (n : ℕ) (b : Bool) → n ≡ 0 → b ≡ flows n (lower ms n) → true ≡ b
  flows_end n b top e = sym (e ∙ ap (λ k. flows k (lower ms n)) top ∙ flows_top (lower ms n))
