-- The characters of names.
use Rattle.std.proofs.Common.{◌≡◌, ℕ, zero, suc, ◌+◌, ◌-◌, ◌≤◌, ◌<◌, Bool, true, false, not, ◌&&◌, ◌||◌, ◌⊎◌, inl, inr, List, refl, sym, ◌∙◌, ap, arith}
use Rattle.std.specs.Prelude.{◌==◌}
use Rattle.std.proofs.lemmas.Bool.Decides.{nat_tests}
use Rattle.sw_text_scan.specs.declared.runs.Class.TheVariants as classes
use Rattle.sw_text_scan.specs.declared.runs.TheConstants.{MOST_HEX_DIGITS}
use Rattle.sw_text_scan.specs.declared.signs.TheConstants.{END, CARRIAGE_RETURN, LINE_FEED}
use Rattle.sw_text_scan.specs.Bytes.{sign, byte, is_break, is_white, is_hex_digit, is_name_byte}
use Rattle.sw_text_scan.specs.Runs.{hex_from, hex_end, white_end, escape_end, next}
use Rattle.sw_text_scan.proofs.Bounds.{and_right, if_true, if_false}
use Rattle.sw_text_scan.proofs.Progress.{either}
use Rattle.sw_text_locality.specs.Names.{is_unclosed}
use Rattle.sw_text_locality.proofs.Lexical.{equal, split}

abbrev pub on : List ℕ → ℕ → ℕ
on bs i = next classes.Name bs i

-- a carriage return and a line feed
abbrev pub is_pair : List ℕ → ℕ → Bool
is_pair bs h = (byte bs h == CARRIAGE_RETURN) && (byte bs (h + 1) == LINE_FEED)

pub hex_not_white : (b : ℕ) → is_white b ≡ true → is_hex_digit b ≡ false
hex_not_white b e = grind (arith, nat_tests)

pub name_not_slash : (b : ℕ) → is_name_byte b ≡ true → (b == sign "\\") ≡ false
name_not_slash b e = grind (arith, nat_tests)

-- what has to stand behind a name in the other text: a space, or no line feed
abbrev pub closes : Bool → ℕ → Bool
closes true b = b == sign " "
closes false b = not (b == LINE_FEED)

abbrev pub closing : Bool → ℕ
closing true = 1
closing false = 0

-- a name character of so many bytes, and whether it's a hexadecimal escape without white space behind it
pub data Character (bs : List ℕ) (i n : ℕ) : Bool → Type 0 where
  plain : n ≡ 1 → is_name_byte (byte bs i) ≡ true → Character bs i n false
  escaped : n ≡ 2 → byte bs i ≡ sign "\\" → is_hex_digit (byte bs (i + 1)) ≡ false → (is_break (byte bs (i + 1)) || (byte bs (i + 1) == END)) ≡ false
      → Character bs i n false
  closed : (m : ℕ) → n ≡ m + 2 → byte bs i ≡ sign "\\" → is_hex_digit (byte bs (i + 1)) ≡ true → hex_end bs (i + 1) ≡ (i + 1) + m → is_pair bs ((i + 1) + m) ≡ false
      → is_white (byte bs ((i + 1) + m)) ≡ true → Character bs i n false
  paired : (m : ℕ) → n ≡ m + 3 → byte bs i ≡ sign "\\" → is_hex_digit (byte bs (i + 1)) ≡ true → hex_end bs (i + 1) ≡ (i + 1) + m → is_pair bs ((i + 1) + m) ≡ true
      → Character bs i n false
  unclosed : (m : ℕ) → n ≡ m + 1 → byte bs i ≡ sign "\\" → is_hex_digit (byte bs (i + 1)) ≡ true → hex_end bs (i + 1) ≡ (i + 1) + m
      → is_white (byte bs ((i + 1) + m)) ≡ false → Character bs i n true

module _ (bs : List ℕ) where
  pub hex_forward : (n i : ℕ) → i ≤ hex_from bs n i
  hex_forward zero i = omega arith
  hex_forward (suc n) i =
      let on = hex_forward n (i + 1) in either (λ (j : ℕ). i ≤ j) (is_hex_digit (byte bs i)) (hex_from bs n (i + 1)) i (λ _. omega arith) (λ _. omega arith)

  -- digits end where as many as may be are taken, or where no digit stands; and each is one
  pub record Ended (n i m : ℕ) : Type 0 where
    pub stop : (m ≡ n) ⊎ (is_hex_digit (byte bs (i + m)) ≡ false)
    pub last : 0 < m → is_hex_digit (byte bs ((i + m) - 1)) ≡ true

  pub hex_ended : (n m i : ℕ) → hex_from bs n i ≡ i + m → Ended n i m
  hex_ended zero m i e = let z : m ≡ 0 = omega (arith, e) in record { stop = inl z; last = λ lt. absurd (omega (arith, z)) }
  hex_ended (suc n) m i e =
      split (is_hex_digit (byte bs i)) (hex_from bs n (i + 1)) i (i + m)
      (λ t f. let fw = hex_forward n (i + 1) in
      let less : 0 < m = omega (arith, fw, f) in
      let rest = hex_ended n (m - 1) (i + 1) (f ∙ (let q : i + m ≡ (i + 1) + (m - 1) = omega (arith, less) in q)) in
      let same : (i + 1) + (m - 1) ≡ i + m = omega (arith, less) in
      record { stop = stopped less same rest.stop; last = λ lt. ended t less same rest.last })
      (λ t f. let z : m ≡ 0 = omega (arith, f) in
      record { stop = inr (ap (λ (k : ℕ). is_hex_digit (byte bs k)) (let q : i + m ≡ i = omega (arith, z) in q) ∙ t); last = λ lt. absurd (omega (arith, z)) }) e
    where
      stopped : 0 < m → (i + 1) + (m - 1) ≡ i + m → ((m - 1) ≡ n) ⊎ (is_hex_digit (byte bs ((i + 1) + (m - 1))) ≡ false) → (m ≡ suc n) ⊎ (is_hex_digit (byte bs (i + m)) ≡ false)
      stopped lt same (inl q) = inl (omega (arith, lt, q))
      stopped lt same (inr h) = inr (ap (λ (k : ℕ). is_hex_digit (byte bs k)) (sym same) ∙ h)

      ended : is_hex_digit (byte bs i) ≡ true → 0 < m → (i + 1) + (m - 1) ≡ i + m → (0 < m - 1 → is_hex_digit (byte bs (((i + 1) + (m - 1)) - 1)) ≡ true)
          → is_hex_digit (byte bs ((i + m) - 1)) ≡ true
      ended t lt same h = go (m - 1) refl
        where
          go : (k : ℕ) → m - 1 ≡ k → is_hex_digit (byte bs ((i + m) - 1)) ≡ true
          go zero q = ap (λ (k : ℕ). is_hex_digit (byte bs k)) (let p : (i + m) - 1 ≡ i = omega (arith, lt, q) in p) ∙ t
          go (suc k) q = ap (λ (k : ℕ). is_hex_digit (byte bs (k - 1))) (sym same) ∙ h (omega (arith, q))

  pub and_no : (a b : Bool) → b ≡ false → (a && b) ≡ false
  and_no true b e = e
  and_no false b e = refl

  pub and_none : (a b : Bool) → a ≡ false → (a && b) ≡ false
  and_none true b e = absurd (cc)
  and_none false b e = refl

  pub and_both : (a b : Bool) → a ≡ true → b ≡ true → (a && b) ≡ true
  and_both true b e f = f
  and_both false b e f = absurd (cc)

  pub no_test : (i : ℕ) → ((byte bs i == sign "\\") && is_hex_digit (byte bs (escape_end bs i - 1))) ≡ false → is_unclosed bs i ≡ false
  unfolding is_unclosed
  no_test i e = e

  pub a_test : (i : ℕ) → ((byte bs i == sign "\\") && is_hex_digit (byte bs (escape_end bs i - 1))) ≡ true → is_unclosed bs i ≡ true
  unfolding is_unclosed
  a_test i e = e

  pub last_test : (i k : ℕ) → escape_end bs i ≡ k → is_hex_digit (byte bs (k - 1)) ≡ false → is_unclosed bs i ≡ false
  last_test i k e h = no_test i (and_no (byte bs i == sign "\\") _ (ap (λ (x : ℕ). is_hex_digit (byte bs (x - 1))) e ∙ h))

  -- an escape takes what it takes
  pub slash_next : (i : ℕ) → byte bs i ≡ sign "\\" → on bs i ≡ escape_end bs i
  slash_next i e = if_false (is_name_byte (byte bs i)) (i + 1) (escape_end bs i) (ap is_name_byte e)

  pub escape_hex : (i : ℕ) → byte bs i ≡ sign "\\" → is_hex_digit (byte bs (i + 1)) ≡ true → escape_end bs i ≡ white_end bs (hex_end bs (i + 1))
  unfolding escape_end
  escape_hex i s h =
      if_false (not (byte bs i == sign "\\")) i _ (ap (λ (b : ℕ). not (b == sign "\\")) s) ∙ if_true (is_hex_digit (byte bs (i + 1))) _ _ h

  pub escape_other : (i : ℕ) → byte bs i ≡ sign "\\" → is_hex_digit (byte bs (i + 1)) ≡ false → (is_break (byte bs (i + 1)) || (byte bs (i + 1) == END)) ≡ false → escape_end bs i ≡ i + 2
  unfolding escape_end
  escape_other i s h o =
      if_false (not (byte bs i == sign "\\")) i _ (ap (λ (b : ℕ). not (b == sign "\\")) s) ∙ if_false (is_hex_digit (byte bs (i + 1))) _ _ h
      ∙ if_false (is_break (byte bs (i + 1)) || (byte bs (i + 1) == END)) i (i + 2) o

  pub white_pair : (h : ℕ) → is_pair bs h ≡ true → white_end bs h ≡ h + 2
  white_pair h e = if_true (is_pair bs h) _ _ e

  pub white_one : (h : ℕ) → is_pair bs h ≡ false → is_white (byte bs h) ≡ true → white_end bs h ≡ h + 1
  white_one h e w = if_false (is_pair bs h) _ _ e ∙ if_true (is_white (byte bs h)) (h + 1) h w

  pub no_pair : (h : ℕ) → is_white (byte bs h) ≡ false → is_pair bs h ≡ false
  no_pair h w = and_none (byte bs h == CARRIAGE_RETURN) _ (other (byte bs h) w)
    where
      other : (b : ℕ) → is_white b ≡ false → (b == CARRIAGE_RETURN) ≡ false
      other b e = grind (arith, nat_tests)

  pub white_zero : (h : ℕ) → is_white (byte bs h) ≡ false → white_end bs h ≡ h
  white_zero h w = if_false (is_pair bs h) _ _ (no_pair h w) ∙ if_false (is_white (byte bs h)) (h + 1) h w

  -- the next place of each kind
  pub character_next : (i n : ℕ) (u : Bool) → Character bs i n u → on bs i ≡ i + n
  character_next i n u (plain q e) = if_true (is_name_byte (byte bs i)) (i + 1) _ e ∙ (let p : i + 1 ≡ i + n = omega (arith, q) in p)
  character_next i n u (escaped q s h o) = slash_next i s ∙ escape_other i s h o ∙ (let p : i + 2 ≡ i + n = omega (arith, q) in p)
  character_next i n u (closed m q s h e p w) =
      slash_next i s ∙ escape_hex i s h ∙ ap (white_end bs) e ∙ white_one ((i + 1) + m) p w ∙ (let p : ((i + 1) + m) + 1 ≡ i + n = omega (arith, q) in p)
  character_next i n u (paired m q s h e p) =
      slash_next i s ∙ escape_hex i s h ∙ ap (white_end bs) e ∙ white_pair ((i + 1) + m) p ∙ (let p : ((i + 1) + m) + 2 ≡ i + n = omega (arith, q) in p)
  character_next i n u (unclosed m q s h e w) =
      slash_next i s ∙ escape_hex i s h ∙ ap (white_end bs) e ∙ white_zero ((i + 1) + m) w ∙ (let p : (i + 1) + m ≡ i + n = omega (arith, q) in p)

  -- where a digit stands, one is taken
  pub hex_some : (m i : ℕ) → is_hex_digit (byte bs i) ≡ true → hex_end bs i ≡ i + m → 0 < m
  unfolding hex_end
  hex_some m i t e = go m (hex_ended MOST_HEX_DIGITS m i e).stop
    where
      go : (m : ℕ) → (m ≡ MOST_HEX_DIGITS) ⊎ (is_hex_digit (byte bs (i + m)) ≡ false) → 0 < m
      go zero (inl q) = absurd (omega (arith, q))
      go zero (inr x) =
          let same : is_hex_digit (byte bs (i + 0)) ≡ true = ap (λ (k : ℕ). is_hex_digit (byte bs k)) (let p : i + 0 ≡ i = omega arith in p) ∙ t in absurd (cc)
      go (suc m) x = omega arith

  pub hex_last : (m i : ℕ) → hex_end bs i ≡ i + m → 0 < m → is_hex_digit (byte bs ((i + m) - 1)) ≡ true
  unfolding hex_end
  hex_last m i e some = (hex_ended MOST_HEX_DIGITS m i e).last some

  -- and what the test says of it
  pub character_test : (i n : ℕ) (u : Bool) → Character bs i n u → is_unclosed bs i ≡ u
  character_test i n u (plain q e) = no_test i (and_none (byte bs i == sign "\\") _ (name_not_slash (byte bs i) e))
  character_test i n u (escaped q s h o) =
      last_test i (i + 2) (escape_other i s h o) (ap (λ (k : ℕ). is_hex_digit (byte bs k)) (let p : (i + 2) - 1 ≡ i + 1 = omega arith in p) ∙ h)
  character_test i n u (closed m q s h e p w) =
      last_test i (((i + 1) + m) + 1) (escape_hex i s h ∙ ap (white_end bs) e ∙ white_one ((i + 1) + m) p w)
      (ap (λ (k : ℕ). is_hex_digit (byte bs k)) (let p : (((i + 1) + m) + 1) - 1 ≡ (i + 1) + m = omega arith in p) ∙ hex_not_white (byte bs ((i + 1) + m)) w)
  character_test i n u (paired m q s h e p) =
      last_test i (((i + 1) + m) + 2) (escape_hex i s h ∙ ap (white_end bs) e ∙ white_pair ((i + 1) + m) p)
      (ap (λ (k : ℕ). is_hex_digit (byte bs k)) (let p : (((i + 1) + m) + 2) - 1 ≡ ((i + 1) + m) + 1 = omega arith in p)
      ∙ feed (byte bs (((i + 1) + m) + 1)) (and_right (byte bs ((i + 1) + m) == CARRIAGE_RETURN) (byte bs (((i + 1) + m) + 1) == LINE_FEED) p))
    where
      feed : (b : ℕ) → (b == LINE_FEED) ≡ true → is_hex_digit b ≡ false
      feed b f = grind (arith, nat_tests)
  character_test i n u (unclosed m q s h e w) =
      a_test i (and_both (byte bs i == sign "\\") _ (ap (λ (b : ℕ). b == sign "\\") s)
      (ap (λ (x : ℕ). is_hex_digit (byte bs (x - 1))) (escape_hex i s h ∙ ap (white_end bs) e ∙ white_zero ((i + 1) + m) w)
      ∙ hex_last m (i + 1) e (hex_some m (i + 1) h e)))

  pub record Known (i : ℕ) : Type 0 where
    pub bytes : ℕ
    pub bare : Bool
    pub kind : Character bs i bytes bare

  pub escape_none : (i : ℕ) → (byte bs i == sign "\\") ≡ false → escape_end bs i ≡ i
  unfolding escape_end
  escape_none i t = if_true (not (byte bs i == sign "\\")) i _ (ap not t)

  pub escape_broken : (i : ℕ) → byte bs i ≡ sign "\\" → is_hex_digit (byte bs (i + 1)) ≡ false → (is_break (byte bs (i + 1)) || (byte bs (i + 1) == END)) ≡ true → escape_end bs i ≡ i
  unfolding escape_end
  escape_broken i s h o =
      if_false (not (byte bs i == sign "\\")) i _ (ap (λ (b : ℕ). not (b == sign "\\")) s) ∙ if_false (is_hex_digit (byte bs (i + 1))) _ _ h
      ∙ if_true (is_break (byte bs (i + 1)) || (byte bs (i + 1) == END)) i (i + 2) o

  pub hex_end_forward : (i : ℕ) → i ≤ hex_end bs i
  unfolding hex_end
  hex_end_forward i = hex_forward MOST_HEX_DIGITS i

  pub known : (i : ℕ) → i < on bs i → Known i
  known i lt = go (is_name_byte (byte bs i)) refl
    where
      escape : escape_end bs i ≡ on bs i → Known i
      escape f = slashed (byte bs i == sign "\\") refl
        where
          slashed : (t : Bool) → (byte bs i == sign "\\") ≡ t → Known i
          slashed false t = let stays = escape_none i t in absurd (omega (arith, stays, f, lt))
          slashed true t = digits (is_hex_digit (byte bs (i + 1))) refl (equal (byte bs i) (sign "\\") t)
            where
              digits : (h : Bool) → is_hex_digit (byte bs (i + 1)) ≡ h → byte bs i ≡ sign "\\" → Known i
              digits false h s = other (is_break (byte bs (i + 1)) || (byte bs (i + 1) == END)) refl
                where
                  other : (o : Bool) → (is_break (byte bs (i + 1)) || (byte bs (i + 1) == END)) ≡ o → Known i
                  other false o = record { bytes = 2; bare = false; kind = escaped refl s h o }
                  other true o = let stays = escape_broken i s h o in absurd (omega (arith, stays, f, lt))
              digits true h s = behind (hex_end bs (i + 1) - (i + 1)) (count (hex_end bs (i + 1)) (hex_end_forward (i + 1)))
                where
                  count : (k : ℕ) → i + 1 ≤ k → k ≡ (i + 1) + (k - (i + 1))
                  count k l = omega (arith, l)

                  behind : (m : ℕ) → hex_end bs (i + 1) ≡ (i + 1) + m → Known i
                  behind m e = white (is_white (byte bs ((i + 1) + m))) refl
                    where
                      white : (w : Bool) → is_white (byte bs ((i + 1) + m)) ≡ w → Known i
                      white false w = record { bytes = m + 1; bare = true; kind = unclosed m refl s h e w }
                      white true w = pair (is_pair bs ((i + 1) + m)) refl
                        where
                          pair : (p : Bool) → is_pair bs ((i + 1) + m) ≡ p → Known i
                          pair false p = record { bytes = m + 2; bare = false; kind = closed m refl s h e p w }
                          pair true p = record { bytes = m + 3; bare = false; kind = paired m refl s h e p }

      go : (t : Bool) → is_name_byte (byte bs i) ≡ t → Known i
      go true t = record { bytes = 1; bare = false; kind = plain refl t }
      go false t = escape (sym (if_false (is_name_byte (byte bs i)) (i + 1) (escape_end bs i) t))
