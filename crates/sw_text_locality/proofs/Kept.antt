-- A name that was read is read again as itself wherever it stands.
use Rattle.std.proofs.Common.{◌≡◌, ℕ, zero, suc, ◌+◌, ◌-◌, ◌≤◌, ◌<◌, Bool, true, false, not, ◌&&◌, ◌||◌, ◌⊎◌, inl, inr, List, length, refl, sym, ◌∙◌, ap, subst, arith}
use Rattle.std.specs.Prelude.{◌==◌, nat_lt}
use Rattle.std.proofs.lemmas.Bool.Decides.{nat_tests}
use Rattle.sw_text_scan.specs.declared.runs.Class.TheVariants as classes
use Rattle.sw_text_scan.specs.declared.runs.TheConstants.{MOST_HEX_DIGITS}
use Rattle.sw_text_scan.specs.declared.signs.TheConstants.{END, CARRIAGE_RETURN, LINE_FEED}
use Rattle.sw_text_scan.specs.Bytes.{sign, byte, is_break, is_white, is_hex_digit, is_name_byte}
use Rattle.sw_text_scan.specs.Runs.{hex_from, hex_end, run_from, run_end}
use Rattle.sw_text_scan.proofs.Bounds.{and_left, if_true, if_false, next_from, run_step, run_stop}
use Rattle.sw_text_scan.proofs.Progress.{either}
use Rattle.sw_text_locality.specs.Names.{is_unclosed, unclosed_from}
use Rattle.sw_text_locality.proofs.Lexical.{equal, split}
use Rattle.sw_text_locality.proofs.Unclosed.{unclosed_step, unclosed_stop}
use Rattle.sw_text_locality.proofs.Characters.{on, is_pair, hex_not_white, closes, closing, Character, hex_forward, hex_ended, and_no, and_none, hex_some, character_next, character_test, Known, known}
use Rattle.sw_text_locality.proofs.Characters.Character.{plain, escaped, closed, paired, unclosed}

-- from one text to another
module _ (bs cs : List ℕ) where
  -- the same n bytes stand at two places
  abbrev pub Alike : ℕ → ℕ → ℕ → Type 0
  Alike i d n = (k : ℕ) → k < n → byte bs (i + k) ≡ byte cs (d + k)

  pub later : (m i d n : ℕ) → Alike i d n → Alike (i + m) (d + m) (n - m)
  later m i d n a k lt =
      ap (byte bs) (let p : (i + m) + k ≡ i + (m + k) = omega arith in p) ∙ a (m + k) (omega (arith, lt))
      ∙ ap (byte cs) (let p : d + (m + k) ≡ (d + m) + k = omega arith in p)

  pub first : (i d n : ℕ) → 0 < n → Alike i d n → byte bs i ≡ byte cs d
  first i d n lt a =
      ap (byte bs) (let p : i ≡ i + 0 = omega arith in p) ∙ a 0 lt ∙ ap (byte cs) (let p : d + 0 ≡ d = omega arith in p)

  pub fewer : (i d n m : ℕ) → m ≤ n → Alike i d n → Alike i d m
  fewer i d n m le a k lt = a k (omega (arith, le, lt))

  hex_alike : (n m i d : ℕ) → hex_from bs n i ≡ i + m → Alike i d m → (m ≡ n) ⊎ (is_hex_digit (byte cs (d + m)) ≡ false) → hex_from cs n d ≡ d + m
  hex_alike zero m i d e a s = omega (arith, e)
  hex_alike (suc n) m i d e a s =
      split (is_hex_digit (byte bs i)) (hex_from bs n (i + 1)) i (i + m)
      (λ t f. let fw = hex_forward bs n (i + 1) in
      let less : 0 < m = omega (arith, fw, f) in
      let back : (d + 1) + (m - 1) ≡ d + m = omega (arith, less) in
      if_true (is_hex_digit (byte cs d)) (hex_from cs n (d + 1)) d (ap is_hex_digit (sym (first i d m less a)) ∙ t)
      ∙ hex_alike n (m - 1) (i + 1) (d + 1) (f ∙ (let q : i + m ≡ (i + 1) + (m - 1) = omega (arith, less) in q)) (later 1 i d m a) (stopped less back s)
      ∙ back)
      (λ t f. let z : m ≡ 0 = omega (arith, f) in none z s) e
    where
      stopped : 0 < m → (d + 1) + (m - 1) ≡ d + m → (m ≡ suc n) ⊎ (is_hex_digit (byte cs (d + m)) ≡ false) → ((m - 1) ≡ n) ⊎ (is_hex_digit (byte cs ((d + 1) + (m - 1))) ≡ false)
      stopped lt back (inl q) = inl (omega (arith, lt, q))
      stopped lt back (inr h) = inr (ap (λ (k : ℕ). is_hex_digit (byte cs k)) back ∙ h)

      none : m ≡ 0 → (m ≡ suc n) ⊎ (is_hex_digit (byte cs (d + m)) ≡ false) → hex_from cs (suc n) d ≡ d + m
      none z (inl q) = absurd (omega (arith, z, q))
      none z (inr h) =
          let here : d + m ≡ d = omega (arith, z) in
          if_false (is_hex_digit (byte cs d)) (hex_from cs n (d + 1)) d (ap (λ (k : ℕ). is_hex_digit (byte cs k)) (sym here) ∙ h) ∙ sym here

  pub hex_end_alike : (m i d : ℕ) → hex_end bs i ≡ i + m → Alike i d m → (m ≡ MOST_HEX_DIGITS) ⊎ (is_hex_digit (byte cs (d + m)) ≡ false) → hex_end cs d ≡ d + m
  unfolding hex_end
  hex_end_alike m i d e a s = hex_alike MOST_HEX_DIGITS m i d e a s

  hex_end_stop : (m i : ℕ) → hex_end bs i ≡ i + m → (m ≡ MOST_HEX_DIGITS) ⊎ (is_hex_digit (byte bs (i + m)) ≡ false)
  unfolding hex_end
  hex_end_stop m i e = (hex_ended bs MOST_HEX_DIGITS m i e).stop

  -- the byte at k behind i
  at_byte : (i d n k p q : ℕ) → k < n → p ≡ i + k → q ≡ d + k → Alike i d n → byte bs p ≡ byte cs q
  at_byte i d n k p q lt e f a = ap (byte bs) e ∙ a k lt ∙ ap (byte cs) (sym f)

  -- what stands behind a character in the other text: the same byte, or no line feed, behind what nothing is missing from
  abbrev pub Behind : ℕ → ℕ → Bool → Type 0
  Behind p q u = (byte bs p ≡ byte cs q) ⊎ ((u ≡ false) × ((byte cs q == LINE_FEED) ≡ false))

  pub character_kept : (i d n : ℕ) (u : Bool) → Character bs i n u → Alike i d n → Behind (i + n) (d + n) u → Character cs d n u
  character_kept i d n u (plain q e) a b = plain q (ap is_name_byte (sym (first i d n (omega (arith, q)) a)) ∙ e)
  character_kept i d n u (escaped q s h o) a b =
      let second = a 1 (omega (arith, q)) in
      escaped q (sym (first i d n (omega (arith, q)) a) ∙ s) (ap is_hex_digit (sym second) ∙ h) (ap (λ (x : ℕ). is_break x || (x == END)) (sym second) ∙ o)
  character_kept i d n u (closed m q s h e p w) a b =
      let last : byte bs ((i + 1) + m) ≡ byte cs ((d + 1) + m) = at_byte i d n (m + 1) ((i + 1) + m) ((d + 1) + m) (omega (arith, q)) (omega arith) (omega arith) a in
      let white = ap is_white (sym last) ∙ w in
      closed m q (sym (first i d n (omega (arith, q)) a) ∙ s) (ap is_hex_digit (sym (a 1 (omega (arith, q)))) ∙ h)
      (hex_end_alike m (i + 1) (d + 1) e (fewer (i + 1) (d + 1) (n - 1) m (omega (arith, q)) (later 1 i d n a)) (inr (hex_not_white (byte cs ((d + 1) + m)) white)))
      (unpaired b last) white
    where
      unpaired : Behind (i + n) (d + n) u → byte bs ((i + 1) + m) ≡ byte cs ((d + 1) + m) → is_pair cs ((d + 1) + m) ≡ false
      unpaired (inl same) last =
          let here : ((i + 1) + m) + 1 ≡ i + n = omega (arith, q) in
          let there : d + n ≡ ((d + 1) + m) + 1 = omega (arith, q) in
          let next_same : byte bs (((i + 1) + m) + 1) ≡ byte cs (((d + 1) + m) + 1) = ap (byte bs) here ∙ same ∙ ap (byte cs) there in
          ap (λ (x : ℕ). (x == CARRIAGE_RETURN) && (byte cs (((d + 1) + m) + 1) == LINE_FEED)) (sym last)
          ∙ ap (λ (x : ℕ). (byte bs ((i + 1) + m) == CARRIAGE_RETURN) && (x == LINE_FEED)) (sym next_same) ∙ p
      unpaired (inr x) last =
          let there : ((d + 1) + m) + 1 ≡ d + n = omega (arith, q) in
          and_no cs (byte cs ((d + 1) + m) == CARRIAGE_RETURN) _ (ap (λ (k : ℕ). byte cs k == LINE_FEED) there ∙ x.1)
  character_kept i d n u (paired m q s h e p) a b =
      let last : byte bs ((i + 1) + m) ≡ byte cs ((d + 1) + m) = at_byte i d n (m + 1) ((i + 1) + m) ((d + 1) + m) (omega (arith, q)) (omega arith) (omega arith) a in
      let feed : byte bs (((i + 1) + m) + 1) ≡ byte cs (((d + 1) + m) + 1) = at_byte i d n (m + 2) (((i + 1) + m) + 1) (((d + 1) + m) + 1) (omega (arith, q)) (omega arith) (omega arith) a in
      paired m q (sym (first i d n (omega (arith, q)) a) ∙ s) (ap is_hex_digit (sym (a 1 (omega (arith, q)))) ∙ h)
      (hex_end_alike m (i + 1) (d + 1) e (fewer (i + 1) (d + 1) (n - 1) m (omega (arith, q)) (later 1 i d n a))
      (inr (no_hex (byte cs ((d + 1) + m)) (ap (λ (x : ℕ). x == CARRIAGE_RETURN) (sym last) ∙ and_left (byte bs ((i + 1) + m) == CARRIAGE_RETURN) (byte bs (((i + 1) + m) + 1) == LINE_FEED) p))))
      (ap (λ (x : ℕ). (x == CARRIAGE_RETURN) && (byte cs (((d + 1) + m) + 1) == LINE_FEED)) (sym last)
      ∙ ap (λ (x : ℕ). (byte bs ((i + 1) + m) == CARRIAGE_RETURN) && (x == LINE_FEED)) (sym feed) ∙ p)
    where
      no_hex : (b : ℕ) → (b == CARRIAGE_RETURN) ≡ true → is_hex_digit b ≡ false
      no_hex b f = grind (arith, nat_tests)
  character_kept i d n u (unclosed m q s h e w) a (inl same) =
      let here : (i + 1) + m ≡ i + n = omega (arith, q) in
      let there : d + n ≡ (d + 1) + m = omega (arith, q) in
      let last : byte bs ((i + 1) + m) ≡ byte cs ((d + 1) + m) = ap (byte bs) here ∙ same ∙ ap (byte cs) there in
      unclosed m q (sym (first i d n (omega (arith, q)) a) ∙ s) (second a ∙ h)
      (hex_end_alike m (i + 1) (d + 1) e (fewer (i + 1) (d + 1) (n - 1) m (omega (arith, q)) (later 1 i d n a)) (stop last (hex_end_stop m (i + 1) e)))
      (ap is_white (sym last) ∙ w)
    where
      second : Alike i d n → is_hex_digit (byte cs (d + 1)) ≡ is_hex_digit (byte bs (i + 1))
      second a = let some = hex_some bs m (i + 1) h e in ap is_hex_digit (sym (at_byte i d n 1 (i + 1) (d + 1) (omega (arith, some, q)) refl refl a))

      stop : byte bs ((i + 1) + m) ≡ byte cs ((d + 1) + m) → (m ≡ MOST_HEX_DIGITS) ⊎ (is_hex_digit (byte bs ((i + 1) + m)) ≡ false)
          → (m ≡ MOST_HEX_DIGITS) ⊎ (is_hex_digit (byte cs ((d + 1) + m)) ≡ false)
      stop last (inl z) = inl z
      stop last (inr x) = inr (ap is_hex_digit (sym last) ∙ x)
  character_kept i d n u (unclosed m q s h e w) a (inr x) = absurd (let wrong = x.0 in cc)

  -- a space closes it
  character_closed : (i d n : ℕ) → Character bs i n true → Alike i d n → byte cs (d + n) ≡ sign " " → Character cs d (n + 1) false
  character_closed i d n (unclosed m q s h e w) a space =
      let some = hex_some bs m (i + 1) h e in
      let there : (d + 1) + m ≡ d + n = omega (arith, q) in
      let last : byte cs ((d + 1) + m) ≡ sign " " = ap (byte cs) there ∙ space in
      closed m (omega (arith, q)) (sym (first i d n (omega (arith, q)) a) ∙ s) (ap is_hex_digit (sym (at_byte i d n 1 (i + 1) (d + 1) (omega (arith, some, q)) refl refl a)) ∙ h)
      (hex_end_alike m (i + 1) (d + 1) e (fewer (i + 1) (d + 1) (n - 1) m (omega (arith, q)) (later 1 i d n a)) (inr (ap is_hex_digit last)))
      (and_none cs (byte cs ((d + 1) + m) == CARRIAGE_RETURN) _ (ap (λ (x : ℕ). x == CARRIAGE_RETURN) last)) (ap is_white last)

  run_from_forward : (n i : ℕ) → i ≤ run_from classes.Name bs n i
  run_from_forward zero i = omega arith
  run_from_forward (suc n) i =
      let more = run_from_forward n (on bs i) in
      either (λ (j : ℕ). i ≤ j) (nat_lt i (on bs i)) (run_from classes.Name bs n (on bs i)) i (λ t. let lt : i < on bs i = grind (arith, nat_tests) in omega arith) (λ _. omega arith)

  run_from_on : (n i : ℕ) → i < on bs i → on bs i ≤ run_from classes.Name bs (suc n) i
  run_from_on n i lt =
      let more = run_from_forward n (on bs i) in
      let e = if_true (nat_lt i (on bs i)) (run_from classes.Name bs n (on bs i)) i (grind (arith, nat_tests)) in
      omega (arith, e, more)

  stopped_run : (n i : ℕ) → nat_lt i (on bs i) ≡ false → run_from classes.Name bs n i ≡ i
  stopped_run zero i e = refl
  stopped_run (suc n) i e = if_false (nat_lt i (on bs i)) (run_from classes.Name bs n (on bs i)) i e

  stopped_test : (n i : ℕ) (before : Bool) → nat_lt i (on bs i) ≡ false → unclosed_from bs n before i ≡ before
  stopped_test zero i before e = refl
  stopped_test (suc n) i before e = if_false (nat_lt i (on bs i)) (unclosed_from bs n (is_unclosed bs i) (on bs i)) before e

  -- in the other text the name ends there, and nothing is missing from its end
  pub record EndsAt (d j : ℕ) : Type 0 where
    pub end : run_end classes.Name cs d ≡ j
    pub whole : (before : Bool) → unclosed_from cs (length cs - d) before d ≡ false

  -- one character, and what is behind it
  one_more : (d n j : ℕ) → 0 < n → on cs d ≡ d + n → unclosed_from cs (length cs - (d + n)) (is_unclosed cs d) (d + n) ≡ false → run_end classes.Name cs (d + n) ≡ j → EndsAt d j
  one_more d n j some step rest e =
      let goes : d < on cs d = omega (arith, step, some) in
      record {
        end = sym (run_step cs classes.Name d goes) ∙ ap (run_end classes.Name cs) step ∙ e;
        whole = λ before. sym (unclosed_step cs d before goes) ∙ ap (λ (x : ℕ). unclosed_from cs (length cs - x) (is_unclosed cs d) x) step ∙ rest;
      }

  one_last : (d n j : ℕ) → 0 < n → Character cs d n false → on cs (d + n) ≤ d + n → d + n ≡ j → EndsAt d j
  one_last d n j some c stops same =
      one_more d n j some (character_next cs d n false c) (unclosed_stop cs (d + n) (is_unclosed cs d) stops ∙ character_test cs d n false c)
      (run_stop cs classes.Name (d + n) stops ∙ same)

  -- the last character of a name
  last_kept : (i d n : ℕ) (u : Bool) → Character bs i n u → 0 < n → Alike i d n → closes u (byte cs (d + n)) ≡ true → on cs ((d + n) + closing u) ≤ (d + n) + closing u
      → EndsAt d ((d + n) + closing u)
  last_kept i d n true c some a closed_by ends =
      let same : d + (n + 1) ≡ (d + n) + 1 = omega arith in
      one_last d (n + 1) ((d + n) + 1) (omega arith) (character_closed i d n c a (equal (byte cs (d + n)) (sign " ") closed_by)) (subst (λ (x : ℕ). on cs x ≤ x) (sym same) ends) same
  last_kept i d n false c some a closed_by ends =
      let same : d + n ≡ (d + n) + 0 = omega arith in
      one_last d n ((d + n) + 0) some (character_kept i d n false c a (inr (refl, no_feed (byte cs (d + n)) closed_by))) (subst (λ (x : ℕ). on cs x ≤ x) (sym same) ends) same
    where
      no_feed : (b : ℕ) → not (b == LINE_FEED) ≡ true → (b == LINE_FEED) ≡ false
      no_feed b t = grind (arith, nat_tests)

  -- a name of n characters at most
  abbrev RunKept : ℕ → Type 0
  RunKept n =
      (i d j : ℕ) (u before : Bool) → run_from classes.Name bs n i ≡ j → unclosed_from bs n before i ≡ u → i < on bs i → length bs ≤ n + i
      → Alike i d (j - i) → closes u (byte cs (d + (j - i))) ≡ true → on cs ((d + (j - i)) + closing u) ≤ (d + (j - i)) + closing u
      → EndsAt d ((d + (j - i)) + closing u)

  pub run_kept : (n : ℕ) → RunKept n
  run_kept zero i d j u before e f lt enough a closed_by ends = let within = next_from bs classes.Name i lt in absurd (omega arith)
  run_kept (suc n) i d j u before e f lt enough a closed_by ends =
      go (run_kept n) (known bs i lt)
    where
      taken : nat_lt i (on bs i) ≡ true
      taken = grind (arith, nat_tests)

      run_on : run_from classes.Name bs n (on bs i) ≡ j
      run_on = sym (if_true (nat_lt i (on bs i)) (run_from classes.Name bs n (on bs i)) i taken) ∙ e

      test_on : unclosed_from bs n (is_unclosed bs i) (on bs i) ≡ u
      test_on = sym (if_true (nat_lt i (on bs i)) (unclosed_from bs n (is_unclosed bs i) (on bs i)) before taken) ∙ f

      go : RunKept n → Known bs i → EndsAt d ((d + (j - i)) + closing u)
      go ih k = more (nat_lt (on bs i) (on bs (on bs i))) refl
        where
          step : on bs i ≡ i + k.bytes
          step = character_next bs i k.bytes k.bare k.kind

          more : (t : Bool) → nat_lt (on bs i) (on bs (on bs i)) ≡ t → EndsAt d ((d + (j - i)) + closing u)
          more true t =
              let goes : on bs i < on bs (on bs i) = grind (arith, nat_tests) in
              let within = next_from bs classes.Name (on bs i) goes in
              let forward : on bs (on bs i) ≤ j = further n goes within (omega (arith, step, lt, enough)) run_on in
              let room : k.bytes < j - i = omega (arith, step, forward, goes) in
              let c = character_kept i d k.bytes k.bare k.kind (fewer i d (j - i) k.bytes (omega (arith, room)) a) (inl (a k.bytes room)) in
              let less : (j - i) - k.bytes ≡ j - on bs i = omega (arith, step) in
              let back : (d + k.bytes) + (j - on bs i) ≡ d + (j - i) = omega (arith, step, room) in
              let rest = ih (on bs i) (d + k.bytes) j u (is_unclosed bs i) run_on test_on goes (omega (arith, step, lt, enough))
              (subst (λ (x : ℕ). Alike x (d + k.bytes) (j - on bs i)) (sym step) (subst (λ (x : ℕ). Alike (i + k.bytes) (d + k.bytes) x) less (later k.bytes i d (j - i) a)))
              (ap (λ (x : ℕ). closes u (byte cs x)) back ∙ closed_by) (subst (λ (x : ℕ). on cs (x + closing u) ≤ x + closing u) (sym back) ends) in
              one_more d k.bytes ((d + (j - i)) + closing u) (omega (arith, step, lt)) (character_next cs d k.bytes k.bare c) (rest.whole (is_unclosed cs d)) (rest.end ∙ ap (λ (x : ℕ). x + closing u) back)
            where
              further : (n : ℕ) → on bs i < on bs (on bs i) → on bs i < length bs → length bs ≤ n + on bs i → run_from classes.Name bs n (on bs i) ≡ j → on bs (on bs i) ≤ j
              further zero goes within room r = absurd (omega (arith, within, room))
              further (suc n) goes within room r = let f = run_from_on n (on bs i) goes in omega (arith, f, r)
          more false t =
              let end : on bs i ≡ j = sym (stopped_run n (on bs i) t) ∙ run_on in
              let bare : k.bare ≡ u = sym (character_test bs i k.bytes k.bare k.kind) ∙ sym (stopped_test n (on bs i) (is_unclosed bs i) t) ∙ test_on in
              let count : k.bytes ≡ j - i = omega (arith, step, end) in
              last_kept i d (j - i) u (subst (λ (x : Bool). Character bs i (j - i) x) bare (subst (λ (x : ℕ). Character bs i x k.bare) count k.kind)) (omega (arith, count, step, lt)) a closed_by ends
