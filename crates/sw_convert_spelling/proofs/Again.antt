-- A token of code that was read before one text is read before another that goes on with no token.
use Rattle.std.proofs.Common.{◌≡◌, ℕ, zero, suc, ◌+◌, ◌-◌, ◌≤◌, ◌<◌, Bool, true, false, ◌&&◌, ◌||◌, ◌⊎◌, inl, inr, if◌then◌else◌, List, ◌++◌, length, take, drop, refl, sym, ◌∙◌, ap, subst, arith, length-drop}
use Rattle.std.specs.Prelude.{◌==◌, nat_lt, slice_range}
use Rattle.std.proofs.lemmas.Bool.Decides.{nat_tests}
use Rattle.std.proofs.lemmas.List.{drop-append-le, take-append-le}
use Rattle.sw_text_scan.specs.declared.runs.Class.{Class}
use Rattle.sw_text_scan.specs.declared.runs.Class.TheVariants as classes
use Rattle.sw_text_scan.specs.declared.signs.TheConstants.{END, CARRIAGE_RETURN, LINE_FEED}
use Rattle.sw_text_scan.specs.Bytes.{byte, is_break, is_white, is_hex_digit, is_name_byte}
use Rattle.sw_text_scan.specs.Runs.{next, run_from, run_end}
use Rattle.sw_text_scan.proofs.Bounds.{and_left, and_right, run_step, run_stop, run_forward}
use Rattle.sw_text_locality.specs.Names.{is_unclosed, unclosed_from, ends_unclosed}
use Rattle.sw_text_locality.proofs.Characters.{is_pair, hex_not_white, Character, known, character_next, character_test, hex_some}
use Rattle.sw_text_locality.proofs.Characters.Character.{plain, escaped, closed, paired, unclosed}
use Rattle.sw_text_locality.proofs.Kept.{Alike, hex_end_alike}
use Rattle.sw_text_locality.proofs.Written.{byte_before, byte_behind, no_name}
use Rattle.sw_text_locality.proofs.Runs.{Steps, name_steps, run_again}
use Rattle.sw_convert_spelling.proofs.Choices.{both}

-- ---- two texts that begin with the same bytes

pub lt_or_le : (a b : ℕ) → (a < b) ⊎ (b ≤ a)
lt_or_le a b = grind arith

module _ (w old after : List ℕ) where
  abbrev bs : List ℕ
  bs = w ++ old

  abbrev cs : List ℕ
  cs = w ++ after

  abbrev n : ℕ
  n = length w

  pub same : (k : ℕ) → k < n → byte bs k ≡ byte cs k
  same k lt = byte_before w old k lt ∙ sym (byte_before w after k lt)

  pub back : (f : ℕ → Bool) (k : ℕ) → k < n → f (byte cs k) ≡ f (byte bs k)
  back f k lt = ap f (sym (same k lt))

  pub alike : (i m : ℕ) → i + m ≤ n → Alike bs cs i i m
  alike i m l k lt = same (i + k) (omega (arith, l, lt))

  pub behind : (k : ℕ) → byte cs (n + k) ≡ byte after k
  behind k = byte_behind w after k

  pub behind_first : byte cs n ≡ byte after 0
  behind_first = ap (byte cs) (let e : n ≡ n + 0 = omega arith in e) ∙ behind 0

  pub ranges : (i j : ℕ) → i ≤ j → j ≤ n → slice_range cs i j ≡ slice_range bs i j
  ranges i j l h = part after ∙ sym (part old)
    where
      part : (xs : List ℕ) → take (j - i) (drop i (w ++ xs)) ≡ take (j - i) (drop i w)
      part xs =
          ap (take (j - i)) (drop-append-le i w xs (omega (arith, l, h)))
          ∙ take-append-le (j - i) (drop i w) xs (let e = length-drop i w in omega (arith, e, h))

  -- a run that ends before the bytes do
  pub run_inner : (c : Class) → Steps bs cs c → (i : ℕ) → run_end c bs i < n → next c cs (run_end c bs i) ≤ run_end c bs i → run_end c cs i ≡ run_end c bs i
  run_inner c steps i lt stops =
      let fw = run_forward bs c i in
      let far : i + (run_end c bs i - i) ≡ run_end c bs i = omega (arith, fw) in
      run_again bs cs c steps (run_end c bs i - i) i i (run_end c bs i - i) (omega arith) (sym far) (alike i ((run_end c bs i - i) + 1) (omega (arith, fw, lt)))
      (subst (λ (k : ℕ). next c cs k ≤ k) (sym far) stops)
      ∙ far

  -- ---- names up to the end of the bytes

  -- the last character of a name
  pub last_char : (i m : ℕ) (v : Bool) → Character bs i m v → i + m ≡ n → is_hex_digit (byte cs n) ≡ false → (v && is_white (byte cs n)) ≡ false
      → ((byte cs (n - 1) == CARRIAGE_RETURN) && (byte cs n == LINE_FEED)) ≡ false → Character cs i m v
  last_char i m v (plain q e) end hex white feed = plain q (back is_name_byte i (omega (arith, q, end)) ∙ e)
  last_char i m v (escaped q s h o) end hex white feed =
      escaped q (sym (same i (omega (arith, q, end))) ∙ s) (back is_hex_digit (i + 1) (omega (arith, q, end)) ∙ h) (back (λ b. is_break b || (b == END)) (i + 1) (omega (arith, q, end)) ∙ o)
  last_char i m v (closed k q s h e p d) end hex white feed =
      let at : (i + 1) + k < n = omega (arith, q, end) in
      let last : (i + 1) + k ≡ n - 1 = omega (arith, q, end) in
      let past : ((i + 1) + k) + 1 ≡ n = omega (arith, q, end) in
      let dark = back is_white ((i + 1) + k) at ∙ d in
      closed k q (sym (same i (omega (arith, q, end))) ∙ s) (back is_hex_digit (i + 1) (omega (arith, q, end)) ∙ h)
      (hex_end_alike bs cs k (i + 1) (i + 1) e (alike (i + 1) k (omega (arith, at))) (inr (hex_not_white (byte cs ((i + 1) + k)) dark)))
      (ap (λ (x : ℕ). (byte cs x == CARRIAGE_RETURN) && (byte cs (((i + 1) + k) + 1) == LINE_FEED)) last
      ∙ ap (λ (x : ℕ). (byte cs (n - 1) == CARRIAGE_RETURN) && (byte cs x == LINE_FEED)) past ∙ feed)
      dark
  last_char i m v (paired k q s h e p) end hex white feed =
      let at : (i + 1) + k < n = omega (arith, q, end) in
      let next_at : ((i + 1) + k) + 1 < n = omega (arith, q, end) in
      let pair : is_pair cs ((i + 1) + k) ≡ true = both (byte cs ((i + 1) + k) == CARRIAGE_RETURN) (byte cs (((i + 1) + k) + 1) == LINE_FEED)
      (back (λ b. b == CARRIAGE_RETURN) ((i + 1) + k) at ∙ and_left (byte bs ((i + 1) + k) == CARRIAGE_RETURN) _ p)
      (back (λ b. b == LINE_FEED) (((i + 1) + k) + 1) next_at ∙ and_right (byte bs ((i + 1) + k) == CARRIAGE_RETURN) _ p) in
      paired k q (sym (same i (omega (arith, q, end))) ∙ s) (back is_hex_digit (i + 1) (omega (arith, q, end)) ∙ h)
      (hex_end_alike bs cs k (i + 1) (i + 1) e (alike (i + 1) k (omega (arith, at))) (inr (return_no_hex (byte cs ((i + 1) + k)) (and_left (byte cs ((i + 1) + k) == CARRIAGE_RETURN) _ pair))))
      pair
    where
      return_no_hex : (b : ℕ) → (b == CARRIAGE_RETURN) ≡ true → is_hex_digit b ≡ false
      return_no_hex b f = grind (arith, nat_tests)
  last_char i m v (unclosed k q s h e d) end hex white feed =
      let at : (i + 1) + k ≡ n = omega (arith, q, end) in
      let some = hex_some bs k (i + 1) h e in
      unclosed k q (sym (same i (omega (arith, q, end))) ∙ s) (back is_hex_digit (i + 1) (omega (arith, at, some)) ∙ h)
      (hex_end_alike bs cs k (i + 1) (i + 1) e (alike (i + 1) k (omega (arith, at))) (inr (ap (λ (x : ℕ). is_hex_digit (byte cs x)) at ∙ hex)))
      (ap (λ (x : ℕ). is_white (byte cs x)) at ∙ white)

  -- what stands behind the bytes in the other text goes on with no name
  pub record Parts (u : Bool) : Type 0 where
    pub stops : next classes.Name cs n ≤ n
    pub white : (u && is_white (byte cs n)) ≡ false
    pub feed : ((byte cs (n - 1) == CARRIAGE_RETURN) && (byte cs n == LINE_FEED)) ≡ false

  no_hex : next classes.Name cs n ≤ n → is_hex_digit (byte cs n) ≡ false
  no_hex l = hexes (byte cs n) (no_name cs n l)
    where
      hexes : (b : ℕ) → is_name_byte b ≡ false → is_hex_digit b ≡ false
      hexes b e = grind (arith, nat_tests)

  from_forward : (f i : ℕ) → i ≤ run_from classes.Name bs f i
  from_forward zero i = omega arith
  from_forward (suc f) i = go (nat_lt i (next classes.Name bs i)) refl (from_forward f (next classes.Name bs i))
    where
      go : (t : Bool) → nat_lt i (next classes.Name bs i) ≡ t → next classes.Name bs i ≤ run_from classes.Name bs f (next classes.Name bs i)
          → i ≤ (if t then run_from classes.Name bs f (next classes.Name bs i) else i)
      go true t more = let lt : i < next classes.Name bs i = grind (arith, nat_tests) in omega (arith, lt, more)
      go false t more = omega arith

  -- where the run ends nothing more is told of an open escape
  told_at_end : (f : ℕ) (before : Bool) → run_from classes.Name bs f n ≡ n → unclosed_from bs f before n ≡ before
  told_at_end zero before e = refl
  told_at_end (suc f) before e = go (nat_lt n (next classes.Name bs n)) refl e
    where
      go : (t : Bool) → nat_lt n (next classes.Name bs n) ≡ t → (if t then run_from classes.Name bs f (next classes.Name bs n) else n) ≡ n
          → (if t then unclosed_from bs f (is_unclosed bs n) (next classes.Name bs n) else before) ≡ before
      go true t e = let lt : n < next classes.Name bs n = grind (arith, nat_tests) in let more = from_forward f (next classes.Name bs n) in absurd (omega (arith, lt, more, e))
      go false t e = refl

  module _ (u : Bool) (p : Parts u) where
    name_stop : (i : ℕ) → i ≡ n → run_end classes.Name cs i ≡ n
    name_stop i e = run_stop cs classes.Name i (subst (λ (k : ℕ). next classes.Name cs k ≤ k) (sym e) p.stops) ∙ e

    name_full : (f i : ℕ) (before : Bool) → i ≤ n → run_from classes.Name bs f i ≡ n → unclosed_from bs f before i ≡ u → run_end classes.Name cs i ≡ n
    name_full zero i before l e g = name_stop i e
    name_full (suc f) i before l e g = go (nat_lt i (next classes.Name bs i)) refl e g (λ j before l e g. name_full f j before l e g)
      where
        go : (t : Bool) → nat_lt i (next classes.Name bs i) ≡ t → (if t then run_from classes.Name bs f (next classes.Name bs i) else i) ≡ n
            → (if t then unclosed_from bs f (is_unclosed bs i) (next classes.Name bs i) else before) ≡ u
            → ((j : ℕ) (before : Bool) → j ≤ n → run_from classes.Name bs f j ≡ n → unclosed_from bs f before j ≡ u → run_end classes.Name cs j ≡ n)
            → run_end classes.Name cs i ≡ n
        go false t e g more = name_stop i e
        go true t e g more =
            let goes : i < next classes.Name bs i = grind (arith, nat_tests) in
            let within = from_forward f (next classes.Name bs i) in
            step goes (omega (arith, within, e)) (lt_or_le (next classes.Name bs i) n)
          where
            on_by : i < next classes.Name bs i → next classes.Name cs i ≡ next classes.Name bs i → next classes.Name bs i ≤ n → run_end classes.Name cs i ≡ n
            on_by goes there l =
                sym (run_step cs classes.Name i (omega (arith, goes, there))) ∙ ap (run_end classes.Name cs) there ∙ more (next classes.Name bs i) (is_unclosed bs i) l e g

            step : i < next classes.Name bs i → next classes.Name bs i ≤ n → (next classes.Name bs i < n) ⊎ (n ≤ next classes.Name bs i) → run_end classes.Name cs i ≡ n
            step goes l (inl lt) =
                let far : i + (next classes.Name bs i - i) ≡ next classes.Name bs i = omega (arith, goes) in
                on_by goes (name_steps bs cs i i (next classes.Name bs i - i) goes (sym far) (alike i ((next classes.Name bs i - i) + 1) (omega (arith, goes, lt))) ∙ far) l
            step goes l (inr ge) =
                let end : next classes.Name bs i ≡ n = omega (arith, l, ge) in
                let k = known bs i goes in
                let there = character_next bs i k.bytes k.bare k.kind in
                let bare : k.bare ≡ u =
                sym (character_test bs i k.bytes k.bare k.kind) ∙ sym (told_at_end f (is_unclosed bs i) (ap (run_from classes.Name bs f) (sym end) ∙ e))
                ∙ ap (unclosed_from bs f (is_unclosed bs i)) (sym end) ∙ g in
                let c = last_char i k.bytes k.bare k.kind (omega (arith, there, end)) (no_hex p.stops) (ap (λ (t : Bool). t && is_white (byte cs n)) bare ∙ p.white) p.feed in
                on_by goes (character_next cs i k.bytes k.bare c ∙ sym there) l

    pub name_again : (i : ℕ) → i ≤ n → run_end classes.Name bs i ≡ n → ends_unclosed bs i ≡ u → run_end classes.Name cs i ≡ n
    unfolding run_end ends_unclosed
    name_again i l e g = name_full (length bs - i) i false l e g
