-- An escape is open at the end of a name as its characters tell.
use Rattle.std.proofs.Common.{◌≡◌, ◌⊎◌, ◌≤◌, ◌<◌, ℕ, zero, suc, ◌+◌, ◌-◌, Bool, true, false, ◌&&◌, if◌then◌else◌, List, [], ◌∷◌, ◌++◌, length, Option, Some, None, inl, inr, refl, sym, ◌∙◌, ap, subst, arith, append_assoc, length-append}
use Rattle.std.specs.Prelude.{◌==◌, nat_lt}
use Rattle.std.proofs.lemmas.Bool.Decides.{nat_tests}
use Rattle.sw_text_scan.specs.declared.runs.Class.TheVariants as classes
use Rattle.sw_text_scan.specs.declared.runs.TheConstants.{MOST_HEX_DIGITS}
use Rattle.sw_text_scan.specs.declared.signs.TheConstants.{CARRIAGE_RETURN, LINE_FEED}
use Rattle.sw_text_scan.specs.Bytes.{sign, byte, is_white, is_hex_digit}
use Rattle.sw_text_scan.specs.Runs.{hex_from, hex_end, next, run_from, run_end}
use Rattle.sw_text_scan.proofs.Bounds.{if_true, if_false, and_left, and_right}
use Rattle.sw_text_locality.specs.Names.{is_unclosed, unclosed_from}
use Rattle.sw_text_locality.specs.Names as locality
use Rattle.sw_text_locality.proofs.Characters.{hex_not_white, name_not_slash, Character, known, character_next, character_test, hex_some, hex_ended}
use Rattle.sw_text_locality.proofs.Characters.Character.{plain, escaped, closed, paired, unclosed}
use Rattle.sw_text_locality.proofs.Lexical.{split}
use Rattle.sw_convert_spelling.proofs.MovedRuns.{first_byte, at_byte}
use Rattle.sw_convert_spelling.proofs.Choices.{left_no, right_no, both}
use Rattle.sw_convert_written.specs.Escapes.{begun, takes_white, behind_text, ends_unclosed}
use Rattle.sw_convert_written.specs.Escapes as escapes

module _ (bs : List ℕ) where
  -- the escape that is open behind so many bytes from a place on
  pub states : ℕ → ℕ → Option ℕ → Option ℕ
  states zero i state = state
  states (suc n) i state = states n (i + 1) (escapes.behind state (byte bs i))

  pub states_more : (m n i : ℕ) (state : Option ℕ) → states (m + n) i state ≡ states n (i + m) (states m i state)
  unfolding states
  states_more zero n i state =
      ap (λ (k : ℕ). states k i state) (let e : 0 + n ≡ n = omega arith in e)
      ∙ ap (λ (k : ℕ). states n k state) (let e : i ≡ i + 0 = omega arith in e)
  states_more (suc m) n i state =
      ap (λ (k : ℕ). states k i state) (let e : suc m + n ≡ suc (m + n) = omega arith in e)
      ∙ states_more m n (i + 1) (escapes.behind state (byte bs i))
      ∙ ap (λ (k : ℕ). states n k (states m (i + 1) (escapes.behind state (byte bs i)))) (let e : (i + 1) + m ≡ i + suc m = omega arith in e)

  states_one : (i : ℕ) (state : Option ℕ) → states 1 i state ≡ escapes.behind state (byte bs i)
  unfolding states
  states_one i state = refl

  -- what is open tells the test, and the next byte begins as if nothing were
  pub record Settled (state : Option ℕ) (test : Bool) (i : ℕ) : Type 0 where
    pub told : takes_white state ≡ test
    pub fresh : escapes.behind state (byte bs i) ≡ begun (byte bs i)

  pub nothing_open : (i : ℕ) → Settled None false i
  nothing_open i = record { told = refl; fresh = refl }

  no_begin : (b : ℕ) → (b == sign "\\") ≡ false → begun b ≡ None
  no_begin b e = if_false (b == sign "\\") (Some 0) None e

  -- a byte that is no digit ends an escape
  ended : (digits b : ℕ) → is_hex_digit b ≡ false → (b == sign "\\") ≡ false → escapes.behind (Some digits) b ≡ None
  ended digits b h s =
      if_false (is_hex_digit b && nat_lt digits MOST_HEX_DIGITS) _ _ (left_no (is_hex_digit b) _ h) ∙ go (digits == 0)
    where
      go : (t : Bool) → (if t then None else begun b) ≡ None
      go true = refl
      go false = if_false (b == sign "\\") (Some 0) None s

  hex_states : (n k j d : ℕ) → hex_from bs n j ≡ j + k → d + n ≤ MOST_HEX_DIGITS → states k j (Some d) ≡ Some (d + k)
  unfolding states
  hex_states zero k j d e l = none k (let z : k ≡ 0 = omega (arith, e) in z)
    where
      none : (k : ℕ) → k ≡ 0 → states k j (Some d) ≡ Some (d + k)
      none zero z = ap Some (let y : d ≡ d + 0 = omega arith in y)
      none (suc k) z = absurd (omega (arith, z))
  hex_states (suc n) k j d e l =
      split (is_hex_digit (byte bs j)) (hex_from bs n (j + 1)) j (j + k)
      (λ t f. some t k f (λ k' g. hex_states n k' (j + 1) (d + 1) g (omega (arith, l))))
      (λ t f. none k (let z : k ≡ 0 = omega (arith, f) in z)) e
    where
      none : (k : ℕ) → k ≡ 0 → states k j (Some d) ≡ Some (d + k)
      none zero z = ap Some (let y : d ≡ d + 0 = omega arith in y)
      none (suc k) z = absurd (omega (arith, z))

      less : nat_lt d MOST_HEX_DIGITS ≡ true
      less = grind (arith, nat_tests)

      forward : (n i : ℕ) → i ≤ hex_from bs n i
      forward zero i = omega arith
      forward (suc n) i = go (is_hex_digit (byte bs i)) (forward n (i + 1))
        where
          go : (t : Bool) → i + 1 ≤ hex_from bs n (i + 1) → i ≤ (if t then hex_from bs n (i + 1) else i)
          go true f = omega (arith, f)
          go false f = omega arith

      some : is_hex_digit (byte bs j) ≡ true → (k : ℕ) → hex_from bs n (j + 1) ≡ j + k
          → ((k' : ℕ) → hex_from bs n (j + 1) ≡ (j + 1) + k' → states k' (j + 1) (Some (d + 1)) ≡ Some ((d + 1) + k'))
          → states k j (Some d) ≡ Some (d + k)
      some t zero f again = let fw = forward n (j + 1) in absurd (omega (arith, f, fw))
      some t (suc k) f again =
          ap (states k (j + 1)) (if_true (is_hex_digit (byte bs j) && nat_lt d MOST_HEX_DIGITS) _ _ (both (is_hex_digit (byte bs j)) _ t less))
          ∙ again k (f ∙ (let z : j + suc k ≡ (j + 1) + k = omega arith in z))
          ∙ ap Some (let z : (d + 1) + k ≡ d + suc k = omega arith in z)

  -- behind the `\` and the digits
  digits_open : (i m : ℕ) (state : Option ℕ) (test : Bool) → Settled state test i → byte bs i ≡ sign "\\"
      → hex_end bs (i + 1) ≡ (i + 1) + m → states (1 + m) i state ≡ Some m
  unfolding states hex_end
  digits_open i m state test settled s e =
      states_more 1 m i state
      ∙ ap (states m (i + 1)) (settled.fresh ∙ ap begun s)
      ∙ hex_states MOST_HEX_DIGITS m (i + 1) 0 e (omega arith)
      ∙ ap Some (let z : 0 + m ≡ m = omega arith in z)

  digits_stop : (j k : ℕ) → hex_end bs j ≡ j + k → (k ≡ MOST_HEX_DIGITS) ⊎ (is_hex_digit (byte bs (j + k)) ≡ false)
  unfolding hex_end
  digits_stop j k e = (hex_ended bs MOST_HEX_DIGITS k j e).stop

  white_dark : (b : ℕ) → is_white b ≡ true → (b == sign "\\") ≡ false
  white_dark b e = grind (arith, nat_tests)

  return_white : (b : ℕ) → (b == CARRIAGE_RETURN) ≡ true → is_white b ≡ true
  return_white b e = grind (arith, nat_tests)

  feed_white : (b : ℕ) → (b == LINE_FEED) ≡ true → is_white b ≡ true
  feed_white b e = grind (arith, nat_tests)

  none_settled : (state : Option ℕ) (i : ℕ) → state ≡ None → Settled state false i
  none_settled state i e = subst (λ (s : Option ℕ). Settled s false i) (sym e) (nothing_open i)

  -- one character
  pub character_state : (i m : ℕ) (bare : Bool) (state : Option ℕ) (test : Bool) → Character bs i m bare → Settled state test i
      → Settled (states m i state) bare (i + m)
  character_state i m bare state test (plain q e) settled =
      none_settled (states m i state) (i + m)
      (ap (λ (k : ℕ). states k i state) q ∙ states_one i state ∙ settled.fresh ∙ no_begin (byte bs i) (name_not_slash (byte bs i) e))
  character_state i m bare state test (escaped q s h o) settled =
      none_settled (states m i state) (i + m)
      (ap (λ (k : ℕ). states k i state) (q ∙ (let z : 2 ≡ 1 + 1 = refl in z)) ∙ states_more 1 1 i state
      ∙ states_one (i + 1) (states 1 i state)
      ∙ ap (λ (x : Option ℕ). escapes.behind x (byte bs (i + 1))) (states_one i state ∙ settled.fresh ∙ ap begun s)
      ∙ if_false (is_hex_digit (byte bs (i + 1)) && nat_lt 0 MOST_HEX_DIGITS) _ _ (left_no (is_hex_digit (byte bs (i + 1))) _ h))
  character_state i m bare state test (closed k q s h e p w) settled =
      none_settled (states m i state) (i + m)
      (ap (λ (n : ℕ). states n i state) (let z : m ≡ (1 + k) + 1 = omega (arith, q) in z) ∙ states_more (1 + k) 1 i state
      ∙ states_one (i + (1 + k)) (states (1 + k) i state)
      ∙ ap (λ (x : Option ℕ). escapes.behind x (byte bs (i + (1 + k)))) (digits_open i k state test settled s e)
      ∙ ap (λ (n : ℕ). escapes.behind (Some k) (byte bs n)) (let z : i + (1 + k) ≡ (i + 1) + k = omega arith in z)
      ∙ ended k (byte bs ((i + 1) + k)) (hex_not_white (byte bs ((i + 1) + k)) w) (white_dark (byte bs ((i + 1) + k)) w))
  character_state i m bare state test (paired k q s h e p) settled =
      let w = return_white (byte bs ((i + 1) + k)) (and_left (byte bs ((i + 1) + k) == CARRIAGE_RETURN) _ p) in
      let f = feed_white (byte bs (((i + 1) + k) + 1)) (and_right (byte bs ((i + 1) + k) == CARRIAGE_RETURN) _ p) in
      let one : states ((1 + k) + 1) i state ≡ None =
      states_more (1 + k) 1 i state ∙ states_one (i + (1 + k)) (states (1 + k) i state)
      ∙ ap (λ (x : Option ℕ). escapes.behind x (byte bs (i + (1 + k)))) (digits_open i k state test settled s e)
      ∙ ap (λ (n : ℕ). escapes.behind (Some k) (byte bs n)) (let z : i + (1 + k) ≡ (i + 1) + k = omega arith in z)
      ∙ ended k (byte bs ((i + 1) + k)) (hex_not_white (byte bs ((i + 1) + k)) w) (white_dark (byte bs ((i + 1) + k)) w) in
      none_settled (states m i state) (i + m)
      (ap (λ (n : ℕ). states n i state) (let z : m ≡ ((1 + k) + 1) + 1 = omega (arith, q) in z)
      ∙ states_more ((1 + k) + 1) 1 i state ∙ states_one (i + ((1 + k) + 1)) (states ((1 + k) + 1) i state)
      ∙ ap (λ (x : Option ℕ). escapes.behind x (byte bs (i + ((1 + k) + 1)))) one
      ∙ ap (λ (n : ℕ). begun (byte bs n)) (let z : i + ((1 + k) + 1) ≡ ((i + 1) + k) + 1 = omega arith in z)
      ∙ no_begin (byte bs (((i + 1) + k) + 1)) (white_dark (byte bs (((i + 1) + k) + 1)) f))
  character_state i m bare state test (unclosed k q s h e w) settled =
      let is : states m i state ≡ Some k =
      ap (λ (n : ℕ). states n i state) (let z : m ≡ 1 + k = omega (arith, q) in z) ∙ digits_open i k state test settled s e in
      let place : (i + 1) + k ≡ i + m = omega (arith, q) in
      let some : nat_lt 0 k ≡ true = positive k (hex_some bs k (i + 1) h e) in
      subst (λ (x : Option ℕ). Settled x true (i + m)) (sym is)
      (record { told = some; fresh = over (byte bs (i + m)) k (hex_some bs k (i + 1) h e) (stop_at place (digits_stop (i + 1) k e)) })
    where
      positive : (k : ℕ) → 0 < k → nat_lt 0 k ≡ true
      positive k l = grind (arith, nat_tests)

      stop_at : (i + 1) + k ≡ i + m → (k ≡ MOST_HEX_DIGITS) ⊎ (is_hex_digit (byte bs ((i + 1) + k)) ≡ false)
          → (k ≡ MOST_HEX_DIGITS) ⊎ (is_hex_digit (byte bs (i + m)) ≡ false)
      stop_at p (inl x) = inl x
      stop_at p (inr x) = inr (ap (λ (n : ℕ). is_hex_digit (byte bs n)) (sym p) ∙ x)

      over : (b k : ℕ) → 0 < k → (k ≡ MOST_HEX_DIGITS) ⊎ (is_hex_digit b ≡ false) → escapes.behind (Some k) b ≡ begun b
      over b k some stop =
          if_false (is_hex_digit b && nat_lt k MOST_HEX_DIGITS) _ _ (none stop)
          ∙ if_false (k == 0) None (begun b) (not_zero k some)
        where
          not_zero : (k : ℕ) → 0 < k → (k == 0) ≡ false
          not_zero k l = grind (arith, nat_tests)

          most : (k : ℕ) → k ≡ MOST_HEX_DIGITS → nat_lt k MOST_HEX_DIGITS ≡ false
          most k e = grind (arith, nat_tests)

          none : (k ≡ MOST_HEX_DIGITS) ⊎ (is_hex_digit b ≡ false) → (is_hex_digit b && nat_lt k MOST_HEX_DIGITS) ≡ false
          none (inl e) = right_no (is_hex_digit b) _ (most k e)
          none (inr h) = left_no (is_hex_digit b) _ h

  forward : (f i : ℕ) → i ≤ run_from classes.Name bs f i
  forward zero i = omega arith
  forward (suc f) i = go (nat_lt i (next classes.Name bs i)) refl (forward f (next classes.Name bs i))
    where
      go : (t : Bool) → nat_lt i (next classes.Name bs i) ≡ t → next classes.Name bs i ≤ run_from classes.Name bs f (next classes.Name bs i)
          → i ≤ (if t then run_from classes.Name bs f (next classes.Name bs i) else i)
      go true t more = let lt : i < next classes.Name bs i = grind (arith, nat_tests) in omega (arith, lt, more)
      go false t more = omega arith

  -- a run of them
  pub run_state : (f i n : ℕ) (state : Option ℕ) (test : Bool) → Settled state test i → run_from classes.Name bs f i ≡ i + n
      → takes_white (states n i state) ≡ unclosed_from bs f test i
  unfolding states
  run_state zero i n state test settled e = stay n (let z : n ≡ 0 = omega (arith, e) in z)
    where
      stay : (n : ℕ) → n ≡ 0 → takes_white (states n i state) ≡ test
      stay zero z = settled.told
      stay (suc n) z = absurd (omega (arith, z))
  run_state (suc f) i n state test settled e =
      go (nat_lt i (next classes.Name bs i)) refl e
      (λ k s t d r. run_state f (next classes.Name bs i) k s t d r)
    where
      stay : (n : ℕ) → n ≡ 0 → takes_white (states n i state) ≡ test
      stay zero z = settled.told
      stay (suc n) z = absurd (omega (arith, z))

      go : (t : Bool) → nat_lt i (next classes.Name bs i) ≡ t
          → (if t then run_from classes.Name bs f (next classes.Name bs i) else i) ≡ i + n
          → ((k : ℕ) (s : Option ℕ) (u : Bool) → Settled s u (next classes.Name bs i)
          → run_from classes.Name bs f (next classes.Name bs i) ≡ next classes.Name bs i + k
          → takes_white (states k (next classes.Name bs i) s) ≡ unclosed_from bs f u (next classes.Name bs i))
          → takes_white (states n i state)
          ≡ (if t then unclosed_from bs f (is_unclosed bs i) (next classes.Name bs i) else test)
      go false t e again = stay n (let z : n ≡ 0 = omega (arith, e) in z)
      go true t e again =
          let goes : i < next classes.Name bs i = grind (arith, nat_tests) in
          let k = known bs i goes in
          let there = character_next bs i k.bytes k.bare k.kind in
          let fw = forward f (next classes.Name bs i) in
          let left : n ≡ k.bytes + (n - k.bytes) = omega (arith, there, fw, e) in
          let settled_next = subst (λ (x : ℕ). Settled (states k.bytes i state) k.bare x) (sym there)
          (character_state i k.bytes k.bare state test k.kind settled) in
          ap (λ (x : ℕ). takes_white (states x i state)) left
          ∙ ap takes_white (states_more k.bytes (n - k.bytes) i state)
          ∙ ap (λ (x : ℕ). takes_white (states (n - k.bytes) x (states k.bytes i state))) (sym there)
          ∙ again (n - k.bytes) (states k.bytes i state) k.bare settled_next (e ∙ (let z : i + n ≡ next classes.Name bs i + (n - k.bytes) = omega (arith, there, left) in z))
          ∙ ap (λ (u : Bool). unclosed_from bs f u (next classes.Name bs i)) (sym (character_test bs i k.bytes k.bare k.kind))

-- the state behind a text that stands behind another
pub states_text : (front w old : List ℕ) (state : Option ℕ)
    → behind_text state w ≡ states (front ++ (w ++ old)) (length w) (length front) state
unfolding states
states_text front [] old state = refl
states_text front (b ∷ w) old state =
    let place : length front ≡ length front + 0 = omega arith in
    let here : byte (front ++ (b ∷ (w ++ old))) (length front) ≡ b =
    ap (byte (front ++ (b ∷ (w ++ old)))) place ∙ at_byte front (b ∷ (w ++ old)) 0 ∙ first_byte b (w ++ old) in
    states_text (front ++ b ∷ []) w old (escapes.behind state b)
    ∙ ap (λ (xs : List ℕ). states xs (length w) (length (front ++ b ∷ [])) (escapes.behind state b)) (append_assoc front (b ∷ []) (w ++ old))
    ∙ ap (λ (n : ℕ). states (front ++ (b ∷ (w ++ old))) (length w) n (escapes.behind state b)) (length-append front (b ∷ []))
    ∙ ap (λ (c : ℕ). states (front ++ (b ∷ (w ++ old))) (length w) (length front + 1) (escapes.behind state c)) (sym here)

-- an escape is open at the end of a name as the test of its characters says
pub name_open : (w old : List ℕ) → run_end classes.Name (w ++ old) 0 ≡ length w
    → locality.ends_unclosed (w ++ old) 0 ≡ ends_unclosed w
unfolding run_end locality.ends_unclosed ends_unclosed
name_open w old e =
    sym (run_state (w ++ old) (length (w ++ old) - 0) 0 (length w) None false (nothing_open (w ++ old) 0)
    (e ∙ (let z : length w ≡ 0 + length w = omega arith in z)))
    ∙ sym (ap takes_white (states_text [] w old None))
