-- What is read behind what was read before, for each kind of row of a table.
use Rattle.std.proofs.Common.{◌≡◌, ℕ, ◌+◌, ◌<◌, true, false, not, List, [], ◌++◌, refl, sym, ◌∙◌, ap, subst, append_assoc, append-nil}
use Rattle.sw_parse_grammar.specs.Grammar.{Grammar, skip, seq, many, build, anywhere, nullable, first, member, decided, Answer, Got, Unexpected, TooDeep, and_then, prepend, acted, Text}
use Rattle.sw_parse_grammar.specs.Readers.{parse, Fails}
use Rattle.sw_parse_grammar.specs.declared.ReadError.{ReadError}
use Rattle.sw_parse_grammar.specs.declared.ReadError.TheVariants as ends
use Rattle.sw_parse_grammar.proofs.Loops.{Fit, prepend_twice, read_seq, read_skip, goes_forward}
use Rattle.sw_parse_grammar.proofs.Knot.{many_step, many_end, many_stop, many_deep}
use Rattle.sw_parse_grammar.proofs.Sets.{at_false}

module _ {V : Type 0} where
  -- nothing before an answer
  pub prepend_nothing : (a : Answer V) → prepend [] a ≡ a
  prepend_nothing (Got u j) = refl
  prepend_nothing (Unexpected k) = refl
  prepend_nothing (TooDeep k) = refl

  -- what a builder puts before what was read
  pub prepend_put : (t u : List V) (a : Answer V) (h : List V → List V) → ((v : List V) → h v ≡ u ++ v)
      → prepend t (acted (λ j. h) a) ≡ prepend (t ++ u) a
  prepend_put t u (Got v j) h e =
      ap (λ (w : List V). Got (t ++ w) j) (e v) ∙ ap (λ (w : List V). Got w j) (sym (append_assoc t u v))
  prepend_put t u (Unexpected k) h e = refl
  prepend_put t u (TooDeep k) h e = refl

module _ {V F : Type 0} (rules : F → Grammar V F) (t : Text V) (end n : ℕ) where
  -- a row of two, whose first is read
  then_first : (a b : Grammar V F) (i j : ℕ) (acc whole : List V) (x : Answer V) → parse rules t end n a i ≡ x
      → prepend acc x ≡ Got whole j
      → prepend acc (parse rules t end n (seq a b) i) ≡ prepend whole (parse rules t end n b j)
  then_first a b i j acc whole (Got u k) e p =
      let q : acc ++ u ≡ whole = cc in
      let r : k ≡ j = cc in
      ap (prepend acc) (read_seq rules t end n a b i k u e)
      ∙ prepend_twice acc u (parse rules t end n b k)
      ∙ ap (λ (w : List V). prepend w (parse rules t end n b k)) q
      ∙ ap (λ (m : ℕ). prepend whole (parse rules t end n b m)) r
  then_first a b i j acc whole (Unexpected k) e p = absurd (cc)
  then_first a b i j acc whole (TooDeep k) e p = absurd (cc)

  pub read_then : (a b : Grammar V F) (i j : ℕ) (acc whole : List V)
      → prepend acc (parse rules t end n a i) ≡ Got whole j
      → prepend acc (parse rules t end n (seq a b) i) ≡ prepend whole (parse rules t end n b j)
  read_then a b i j acc whole p = then_first a b i j acc whole (parse rules t end n a i) refl p

  stops_first : (a b : Grammar V F) (i : ℕ) (acc : List V) (e : ReadError) (x : Answer V)
      → parse rules t end n a i ≡ x → Fails e (prepend acc x) → Fails e (prepend acc (parse rules t end n (seq a b) i))
  unfolding parse
  stops_first a b i acc ends.Memory x q p = tt
  stops_first a b i acc (ends.Unexpected k) (Got u j) q p = absurd (cc)
  stops_first a b i acc (ends.Unexpected k) (Unexpected j) q p =
      ap (λ (y : Answer V). prepend acc (and_then y (λ v m. prepend v (parse rules t end n b m)))) q ∙ p
  stops_first a b i acc (ends.Unexpected k) (TooDeep j) q p = absurd (cc)
  stops_first a b i acc (ends.TooDeep k) (Got u j) q p = absurd (cc)
  stops_first a b i acc (ends.TooDeep k) (Unexpected j) q p = absurd (cc)
  stops_first a b i acc (ends.TooDeep k) (TooDeep j) q p =
      ap (λ (y : Answer V). prepend acc (and_then y (λ v m. prepend v (parse rules t end n b m)))) q ∙ p

  -- a row of two, whose first is none
  pub stops_then : (a b : Grammar V F) (i : ℕ) (acc : List V) (e : ReadError)
      → Fails e (prepend acc (parse rules t end n a i)) → Fails e (prepend acc (parse rules t end n (seq a b) i))
  stops_then a b i acc e p = stops_first a b i acc e (parse rules t end n a i) refl p

  -- a token that isn't kept, and what stands behind it
  pub behind_skip : (s : List ℕ) (g : Grammar V F) (i : ℕ) → member (t.kind i) s ≡ true
      → parse rules t end n (seq (skip s) g) i ≡ parse rules t end n g (i + 1)
  behind_skip s g i m =
      read_seq rules t end n (skip s) g i (i + 1) [] (read_skip rules t end n s i m)
      ∙ prepend_nothing (parse rules t end n g (i + 1))

  pub no_skip : (s : List ℕ) (i : ℕ) → member (t.kind i) s ≡ false → parse rules t end n (skip s) i ≡ Unexpected i
  unfolding parse
  no_skip s i m = at_false (member (t.kind i) s) _ (Unexpected i) m

  -- what a builder puts before what was read
  pub put : (h : List V → List V) (u : List V) (g : Grammar V F) (i : ℕ) (acc : List V)
      → ((v : List V) → h v ≡ u ++ v)
      → prepend acc (parse rules t end n (build (anywhere h) g) i) ≡ prepend (acc ++ u) (parse rules t end n g i)
  unfolding parse
  put h u g i acc e = prepend_put acc u (parse rules t end n g i) h e

module _ {V F : Type 0} {rules : F → Grammar V F} {t : Text V} {end : ℕ} (fit : Fit rules t end) (n : ℕ) where
  module _ (g : Grammar V F) (ok : decided rules (many g) ≡ true) where
    one_more : (i : ℕ) (x : Answer V) → member (t.kind i) (first g) ≡ true → parse rules t end n g i ≡ x
        → parse rules t end n (many g) i ≡ parse rules t end n (seq g (many g)) i
    unfolding parse
    one_more i (Got u j) m e =
        many_step rules t fit.ok end fit.past n g ok i j u m e
        ∙ sym (ap (λ (y : Answer V). and_then y (λ v k. prepend v (parse rules t end n (many g) k))) e)
    one_more i (Unexpected k) m e =
        many_stop rules t fit.ok end fit.past n g ok i k m e
        ∙ sym (ap (λ (y : Answer V). and_then y (λ v k. prepend v (parse rules t end n (many g) k))) e)
    one_more i (TooDeep k) m e =
        many_deep rules t fit.ok end fit.past n g ok i k m e
        ∙ sym (ap (λ (y : Answer V). and_then y (λ v k. prepend v (parse rules t end n (many g) k))) e)

    -- any number of them, where one more stands, and where none does
    pub many_more : (i : ℕ) → member (t.kind i) (first g) ≡ true
        → parse rules t end n (many g) i ≡ parse rules t end n (seq g (many g)) i
    many_more i m = one_more i (parse rules t end n g i) m refl

    pub many_none : (i : ℕ) → member (t.kind i) (first g) ≡ false → parse rules t end n (many g) i ≡ Got [] i
    unfolding parse
    many_none i m = many_end rules t fit.ok end fit.past n g ok i m

    -- a loop, where what was read before is the whole up to a place
    pub loop_ends : (i : ℕ) (acc : List V) (a : Answer V) → prepend acc (parse rules t end n (many g) i) ≡ a
        → member (t.kind i) (first g) ≡ false → a ≡ Got acc i
    loop_ends i acc a inv m =
        sym inv ∙ ap (prepend acc) (many_none i m) ∙ ap (λ (u : List V). Got u i) (append-nil acc)

    pub loop_goes : (i j : ℕ) (acc whole : List V) (a : Answer V) → prepend acc (parse rules t end n (many g) i) ≡ a
        → member (t.kind i) (first g) ≡ true → prepend acc (parse rules t end n g i) ≡ Got whole j
        → prepend whole (parse rules t end n (many g) j) ≡ a
    loop_goes i j acc whole a inv m e =
        sym (read_then rules t end n g (many g) i j acc whole e)
        ∙ sym (ap (prepend acc) (many_more i m))
        ∙ inv

    pub loop_stops : (i : ℕ) (acc : List V) (a : Answer V) (e : ReadError)
        → prepend acc (parse rules t end n (many g) i) ≡ a → member (t.kind i) (first g) ≡ true
        → Fails e (prepend acc (parse rules t end n g i)) → Fails e a
    loop_stops i acc a e inv m x =
        subst (Fails e) (sym (ap (prepend acc) (many_more i m)) ∙ inv) (stops_then rules t end n g (many g) i acc e x)

  gone : (g : Grammar V F) → decided rules g ≡ true → not (nullable g) ≡ true → (i j : ℕ) (acc whole : List V)
      (x : Answer V) → parse rules t end n g i ≡ x → prepend acc x ≡ Got whole j → i < j
  gone g ok some i j acc whole (Got u k) e p =
      let lt : i < k = goes_forward fit n g ok some i k u e in
      let r : k ≡ j = cc in
      subst (λ (m : ℕ). i < m) r lt
  gone g ok some i j acc whole (Unexpected k) e p = absurd (cc)
  gone g ok some i j acc whole (TooDeep k) e p = absurd (cc)

  -- what isn't empty ends further on
  pub goes_on : (g : Grammar V F) → decided rules g ≡ true → not (nullable g) ≡ true → (i j : ℕ) (acc whole : List V)
      → prepend acc (parse rules t end n g i) ≡ Got whole j → i < j
  goes_on g ok some i j acc whole p = gone g ok some i j acc whole (parse rules t end n g i) refl p
