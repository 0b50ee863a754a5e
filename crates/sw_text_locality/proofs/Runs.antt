-- Runs of characters that stand in two texts end at the same place in both.
use Rattle.std.proofs.Common.{◌≡◌, ℕ, zero, suc, ◌+◌, ◌-◌, ◌≤◌, ◌<◌, Bool, true, false, not, ◌&&◌, ◌||◌, inl, List, refl, sym, ◌∙◌, ap, subst, arith}
use Rattle.std.specs.Prelude.{◌==◌, nat_lt, if◌then◌else◌}
use Rattle.std.proofs.lemmas.Bool.Decides.{nat_tests}
use Rattle.sw_text_scan.specs.declared.runs.Class.{Class}
use Rattle.sw_text_scan.specs.declared.runs.Class.TheVariants as classes
use Rattle.sw_text_scan.specs.declared.signs.TheConstants.{END, CARRIAGE_RETURN, LINE_FEED}
use Rattle.sw_text_scan.specs.Bytes.{sign, byte, is_break, is_white, is_name_byte}
use Rattle.sw_text_scan.specs.Runs.{white_end, escape_end, text_next, next, run_end}
use Rattle.sw_text_scan.proofs.Bounds.{if_true, if_false, run_step, run_stop, run_forward}
use Rattle.sw_text_locality.proofs.Lexical.{equal, split}
use Rattle.sw_text_locality.proofs.Characters.{is_pair, Known, known, slash_next, character_next, white_pair, white_one, white_zero}
use Rattle.sw_text_locality.proofs.Kept.{Alike, first, later, fewer, character_kept}

-- a place that no class of names takes
pub name_stops : (bs : List ℕ) (i : ℕ) → is_name_byte (byte bs i) ≡ false → (byte bs i == sign "\\") ≡ false → next classes.Name bs i ≤ i
unfolding escape_end
name_stops bs i e f =
    stops (if_false (is_name_byte (byte bs i)) (i + 1) (escape_end bs i) e ∙ if_true (not (byte bs i == sign "\\")) i _ (ap not f))
  where
    stops : {n : ℕ} → n ≡ i → n ≤ i
    stops e = omega (arith, e)

pub white_stops : (bs : List ℕ) (i : ℕ) → is_white (byte bs i) ≡ false → next classes.White bs i ≤ i
white_stops bs i e = let n = if_false (is_white (byte bs i)) (i + 1) i e in omega (arith, n)

pub text_stops : (bs : List ℕ) (q i : ℕ) → (byte bs i == q) ≡ true → next (classes.Text q) bs i ≤ i
unfolding text_next
text_stops bs q i e =
    stops (if_true ((byte bs i == q) || (is_break (byte bs i) || (byte bs i == END))) i _ (either_way (byte bs i == q) _ e))
  where
    stops : {n : ℕ} → n ≡ i → n ≤ i
    stops e = omega (arith, e)

    either_way : (a b : Bool) → a ≡ true → (a || b) ≡ true
    either_way true b e = refl
    either_way false b e = absurd (cc)

-- behind a `\` in a string
abbrev rest : List ℕ → ℕ → ℕ
rest xs x = if is_break (byte xs (x + 1)) then white_end xs (x + 1) else (if byte xs (x + 1) == END then x + 1 else escape_end xs x)

module _ (bs cs : List ℕ) where
  -- what a class takes, it takes in the other text
  abbrev pub Steps : Class → Type 0
  Steps c = (p q m : ℕ) → p < next c bs p → next c bs p ≡ p + m → Alike bs cs p q (m + 1) → next c cs q ≡ q + m

  at_first : (p q m : ℕ) → Alike bs cs p q (m + 1) → byte bs p ≡ byte cs q
  at_first p q m a = first bs cs p q (m + 1) (omega arith) a

  pub white_steps : Steps classes.White
  white_steps p q m lt e a =
      split (is_white (byte bs p)) (p + 1) p (p + m)
      (λ t f. if_true (is_white (byte cs q)) (q + 1) q (ap is_white (sym (at_first p q m a)) ∙ t) ∙ (let r : q + 1 ≡ q + m = omega (arith, f) in r))
      (λ t f. absurd (omega (arith, f, e, lt))) e

  pub name_steps : Steps classes.Name
  name_steps p q m lt e a = go (known bs p lt)
    where
      go : Known bs p → next classes.Name cs q ≡ q + m
      go k =
          let step = character_next bs p k.bytes k.bare k.kind in
          let count : k.bytes ≡ m = omega (arith, step, e) in
          character_next cs q k.bytes k.bare
          (character_kept bs cs p q k.bytes k.bare k.kind (fewer bs cs p q (m + 1) k.bytes (omega (arith, count)) a) (inl (a k.bytes (omega (arith, count)))))
          ∙ (let r : q + k.bytes ≡ q + m = omega (arith, count) in r)

  -- an escape
  pub escape_steps : (p q m : ℕ) → byte bs p ≡ sign "\\" → p < escape_end bs p → escape_end bs p ≡ p + m → Alike bs cs p q (m + 1) → escape_end cs q ≡ q + m
  escape_steps p q m s lt e a =
      let same = slash_next bs p s in
      sym (slash_next cs q (sym (at_first p q m a) ∙ s)) ∙ name_steps p q m (omega (arith, same, lt)) (same ∙ e) a

  white_end_again : (p q m : ℕ) → white_end bs p ≡ p + m → Alike bs cs p q (m + 1) → white_end cs q ≡ q + m
  white_end_again p q m e a = pairs (is_pair bs p) refl
    where
      second : 0 < m → byte bs (p + 1) ≡ byte cs (q + 1)
      second lt = a 1 (omega (arith, lt))

      same_pair : 0 < m → is_pair cs q ≡ is_pair bs p
      same_pair lt =
          ap (λ (x : ℕ). (x == CARRIAGE_RETURN) && (byte cs (q + 1) == LINE_FEED)) (sym (at_first p q m a))
          ∙ ap (λ (x : ℕ). (byte bs p == CARRIAGE_RETURN) && (x == LINE_FEED)) (sym (second lt))

      pairs : (t : Bool) → is_pair bs p ≡ t → white_end cs q ≡ q + m
      pairs true t =
          let two : m ≡ 2 = omega (arith, white_pair bs p t, e) in
          white_pair cs q (same_pair (omega (arith, two)) ∙ t) ∙ (let r : q + 2 ≡ q + m = omega (arith, two) in r)
      pairs false t = whites (is_white (byte bs p)) refl
        where
          whites : (w : Bool) → is_white (byte bs p) ≡ w → white_end cs q ≡ q + m
          whites true w =
              let one : m ≡ 1 = omega (arith, white_one bs p t w, e) in
              white_one cs q (same_pair (omega (arith, one)) ∙ t) (ap is_white (sym (at_first p q m a)) ∙ w) ∙ (let r : q + 1 ≡ q + m = omega (arith, one) in r)
          whites false w =
              let none : m ≡ 0 = omega (arith, white_zero bs p w, e) in
              white_zero cs q (ap is_white (sym (at_first p q m a)) ∙ w) ∙ (let r : q ≡ q + m = omega (arith, none) in r)

  pub text_steps : (quote : ℕ) → Steps (classes.Text quote)
  unfolding text_next
  text_steps quote p q m lt e a =
      split ((byte bs p == quote) || (is_break (byte bs p) || (byte bs p == END))) p _ (p + m)
      (λ t f. absurd (omega (arith, f, e, lt)))
      (λ t f. if_false ((byte cs q == quote) || (is_break (byte cs q) || (byte cs q == END))) q _
      (ap (λ (x : ℕ). (x == quote) || (is_break x || (x == END))) (sym here) ∙ t) ∙ inside f) e
    where
      here : byte bs p ≡ byte cs q
      here = at_first p q m a

      escaped : (byte bs p == sign "\\") ≡ true → rest bs p ≡ p + m → rest cs q ≡ q + m
      escaped s f =
          split (is_break (byte bs (p + 1))) (white_end bs (p + 1)) _ (p + m)
          (λ b g. if_true (is_break (byte cs (q + 1))) _ _ (ap is_break (sym second) ∙ b)
          ∙ white_end_again (p + 1) (q + 1) (m - 1) (g ∙ (let r : p + m ≡ (p + 1) + (m - 1) = omega (arith, some) in r))
          (subst (Alike bs cs (p + 1) (q + 1)) (let r : (m + 1) - 1 ≡ (m - 1) + 1 = omega (arith, some) in r) (later bs cs 1 p q (m + 1) a))
          ∙ (let r : (q + 1) + (m - 1) ≡ q + m = omega (arith, some) in r))
          (λ b g. if_false (is_break (byte cs (q + 1))) _ _ (ap is_break (sym second) ∙ b)
          ∙ split (byte bs (p + 1) == END) (p + 1) (escape_end bs p) (p + m)
          (λ z h. if_true (byte cs (q + 1) == END) _ _ (ap (λ (x : ℕ). x == END) (sym second) ∙ z) ∙ (let r : q + 1 ≡ q + m = omega (arith, h) in r))
          (λ z h. if_false (byte cs (q + 1) == END) _ _ (ap (λ (x : ℕ). x == END) (sym second) ∙ z)
          ∙ escape_steps p q m (equal (byte bs p) (sign "\\") s) (omega (arith, h, some)) h a) g) f
        where
          some : 0 < m
          some = omega (arith, lt, e)

          second : byte bs (p + 1) ≡ byte cs (q + 1)
          second = a 1 (omega (arith, some))

      inside : (if not (byte bs p == sign "\\") then p + 1 else rest bs p) ≡ p + m → (if not (byte cs q == sign "\\") then q + 1 else rest cs q) ≡ q + m
      inside f =
          split (not (byte bs p == sign "\\")) (p + 1) (rest bs p) (p + m)
          (λ s g. if_true (not (byte cs q == sign "\\")) (q + 1) (rest cs q) (ap (λ (x : ℕ). not (x == sign "\\")) (sym here) ∙ s) ∙ (let r : q + 1 ≡ q + m = omega (arith, g) in r))
          (λ s g. if_false (not (byte cs q == sign "\\")) (q + 1) (rest cs q) (ap (λ (x : ℕ). not (x == sign "\\")) (sym here) ∙ s)
          ∙ escaped (not_no (byte bs p == sign "\\") s) g) f
        where
          not_no : (t : Bool) → not t ≡ false → t ≡ true
          not_no true e = refl
          not_no false e = absurd (cc)

  -- runs of at most w bytes
  abbrev RunsAgain : Class → ℕ → Type 0
  RunsAgain c w = (p q m : ℕ) → m ≤ w → run_end c bs p ≡ p + m → Alike bs cs p q (m + 1) → next c cs (q + m) ≤ q + m → run_end c cs q ≡ q + m

  run_none : (c : Class) (q m : ℕ) → m ≡ 0 → next c cs (q + m) ≤ q + m → run_end c cs q ≡ q + m
  run_none c q m z stops = let here : q + m ≡ q = omega (arith, z) in run_stop cs c q (subst (λ (x : ℕ). next c cs x ≤ x) here stops) ∙ sym here

  run_more : (c : Class) → Steps c → (w : ℕ) → RunsAgain c w → RunsAgain c (suc w)
  run_more c steps w again p q m l e a stops = go (nat_lt p (next c bs p)) refl
    where
      goes_on : p < next c bs p → (k : ℕ) → next c bs p ≡ p + k → run_end c cs q ≡ q + m
      goes_on goes k step =
          let far = run_step bs c p goes in
          let fw = run_forward bs c (next c bs p) in
          let room : k ≤ m = omega (arith, step, far, fw, e) in
          let there = steps p q k goes step (fewer bs cs p q (m + 1) (k + 1) (omega (arith, room)) a) in
          let here : (p + k) + (m - k) ≡ p + m = omega (arith, room) in
          let back : (q + k) + (m - k) ≡ q + m = omega (arith, room) in
          sym (run_step cs c q (omega (arith, there, step, goes))) ∙ ap (run_end c cs) there
          ∙ again (p + k) (q + k) (m - k) (omega (arith, l, step, goes)) (sym (ap (run_end c bs) step) ∙ far ∙ e ∙ sym here)
          (subst (Alike bs cs (p + k) (q + k)) (let r : (m + 1) - k ≡ (m - k) + 1 = omega (arith, room) in r) (later bs cs k p q (m + 1) a))
          (subst (λ (x : ℕ). next c cs x ≤ x) (sym back) stops) ∙ back

      go : (t : Bool) → nat_lt p (next c bs p) ≡ t → run_end c cs q ≡ q + m
      go false t = let stay = run_stop bs c p (grind (arith, nat_tests)) in run_none c q m (omega (arith, stay, e)) stops
      go true t =
          let goes : p < next c bs p = grind (arith, nat_tests) in
          goes_on goes (next c bs p - p) (let r : next c bs p ≡ p + (next c bs p - p) = omega (arith, goes) in r)

  pub run_again : (c : Class) → Steps c → (w : ℕ) → RunsAgain c w
  run_again c steps zero p q m l e a stops = run_none c q m (omega (arith, l)) stops
  run_again c steps (suc w) p q m l e a stops = run_more c steps w (run_again c steps w) p q m l e a stops
