-- Where a name begins, one begins in each text in which it stands.
use Rattle.std.proofs.Common.{◌≡◌, ℕ, ◌+◌, ◌-◌, ◌≤◌, ◌<◌, Bool, true, false, not, ◌&&◌, ◌||◌, List, refl, sym, ◌∙◌, ap, arith}
use Rattle.std.specs.Prelude.{◌==◌, nat_lt, if◌then◌else◌}
use Rattle.std.proofs.lemmas.Bool.Decides.{nat_tests}
use Rattle.sw_text_scan.specs.declared.runs.Class.TheVariants as classes
use Rattle.sw_text_scan.specs.declared.signs.TheConstants.{END, CARRIAGE_RETURN, LINE_FEED}
use Rattle.sw_text_scan.specs.Bytes.{sign, byte, is_break, is_white, is_hex_digit, is_name_byte, starts_plainly}
use Rattle.sw_text_scan.specs.Runs.{hex_end, white_end, escape_end, next, run_end, starts_at, begins_name}
use Rattle.sw_text_scan.proofs.Bounds.{and_left, and_right, if_true, run_step, run_forward}
use Rattle.sw_text_scan.proofs.Progress.{either, name_taken}
use Rattle.sw_text_locality.proofs.Lexical.{equal, in_or}
use Rattle.sw_text_locality.proofs.Characters.{Character, Known, known, character_next, name_not_slash, hex_end_forward, hex_some}
use Rattle.sw_text_locality.proofs.Kept.{Alike, first, later}

abbrev on : List ℕ → ℕ → ℕ
on bs i = next classes.Name bs i

or_in : (a b : Bool) → a ≡ true → (a || b) ≡ true
or_in true b e = refl
or_in false b e = absurd (cc)

or_or : (a b : Bool) → (a || b) ≡ true → a ≡ false → b ≡ true
or_or true b e f = absurd (cc)
or_or false b e f = e

module _ (bs : List ℕ) where
  white_forward : (h : ℕ) → h ≤ white_end bs h
  white_forward h =
      either (λ (j : ℕ). h ≤ j) ((byte bs h == CARRIAGE_RETURN) && (byte bs (h + 1) == LINE_FEED)) (h + 2) _ (λ _. omega arith)
      (λ _. either (λ (j : ℕ). h ≤ j) (is_white (byte bs h)) (h + 1) h (λ _. omega arith) (λ _. omega arith))

  -- two bytes say whether an escape begins
  pub escape_goes : (i : ℕ) → nat_lt i (escape_end bs i) ≡ ((byte bs i == sign "\\") && not (is_break (byte bs (i + 1)) || (byte bs (i + 1) == END)))
  unfolding escape_end
  escape_goes i =
      go (byte bs i == sign "\\") (is_hex_digit (byte bs (i + 1))) (is_break (byte bs (i + 1)) || (byte bs (i + 1) == END)) (white_end bs (hex_end bs (i + 1)))
      (λ h. let a = hex_end_forward bs (i + 1) in let b = white_forward (hex_end bs (i + 1)) in omega (arith, a, b)) (digit (byte bs (i + 1)))
    where
      digit : (b : ℕ) → is_hex_digit b ≡ true → (is_break b || (b == END)) ≡ false
      digit b h = grind (arith, nat_tests)

      go : (s h o : Bool) (w : ℕ) → (h ≡ true → i < w) → (h ≡ true → o ≡ false) → nat_lt i (if not s then i else (if h then w else (if o then i else i + 2))) ≡ (s && not o)
      go false h o w p q = grind (arith, nat_tests)
      go true true o w p q = let lt = p refl in let t : nat_lt i w ≡ true = grind (arith, nat_tests) in t ∙ sym (ap not (q refl))
      go true false true w p q = grind (arith, nat_tests)
      go true false false w p q = grind (arith, nat_tests)

  -- an escape takes at least two bytes
  slash_two : (i : ℕ) → i < on bs i → byte bs i ≡ sign "\\" → i + 2 ≤ on bs i
  slash_two i lt s = go (known bs i lt)
    where
      more : (n : ℕ) (u : Bool) → Character bs i n u → 2 ≤ n
      more n u (Character.plain q e) = let no : (byte bs i == sign "\\") ≡ false = name_not_slash (byte bs i) e in let yes : (byte bs i == sign "\\") ≡ true = ap (λ (b : ℕ). b == sign "\\") s in absurd (cc)
      more n u (Character.escaped q s h o) = omega (arith, q)
      more n u (Character.closed m q s h e p w) = omega (arith, q)
      more n u (Character.paired m q s h e p) = omega (arith, q)
      more n u (Character.unclosed m q s h e w) = let some = hex_some bs m (i + 1) h e in omega (arith, q, some)

      go : Known bs i → i + 2 ≤ on bs i
      go k = let e = character_next bs i k.bytes k.bare k.kind in let two = more k.bytes k.bare k.kind in omega (arith, e, two)

  run_over : (i : ℕ) → i < on bs i → on bs i ≤ run_end classes.Name bs i
  run_over i lt = let e = run_step bs classes.Name i lt in let f = run_forward bs classes.Name (on bs i) in omega (arith, e, f)

  starts_begins : (i : ℕ) → starts_at bs i ≡ true → begins_name bs i ≡ true
  unfolding begins_name
  starts_begins i e = or_in (starts_at bs i) _ e

module _ (bs cs : List ℕ) where
  starts_kept : (i d n : ℕ) → Alike bs cs i d n → starts_at bs i ≡ true → run_end classes.Name bs i ≤ i + n → starts_at cs d ≡ true
  starts_kept i d n a e l = go (starts_plainly (byte bs i)) refl
    where
      taken : i < on bs i
      taken = name_taken bs i (starts_begins bs i e)

      same : byte bs i ≡ byte cs d
      same = let f = run_over bs i taken in let t = taken in first bs cs i d n (omega (arith, f, t, l)) a

      go : (t : Bool) → starts_plainly (byte bs i) ≡ t → starts_at cs d ≡ true
      go true t = or_in (starts_plainly (byte cs d)) _ (ap starts_plainly (sym same) ∙ t)
      go false t =
          let goes = sym (escape_goes bs i) ∙ or_or (starts_plainly (byte bs i)) (nat_lt i (escape_end bs i)) e t in
          let slash = and_left (byte bs i == sign "\\") (not (is_break (byte bs (i + 1)) || (byte bs (i + 1) == END))) goes in
          let other = and_right (byte bs i == sign "\\") (not (is_break (byte bs (i + 1)) || (byte bs (i + 1) == END))) goes in
          let f = run_over bs i taken in
          let two = slash_two bs i taken (equal (byte bs i) (sign "\\") slash) in
          let second = a 1 (omega (arith, two, f, l)) in
          in_or (starts_plainly (byte cs d)) _
          (escape_goes cs d ∙ both (byte cs d == sign "\\") _ (ap (λ (b : ℕ). b == sign "\\") (sym same) ∙ slash) (ap (λ (b : ℕ). not (is_break b || (b == END))) (sym second) ∙ other))
        where
          both : (a b : Bool) → a ≡ true → b ≡ true → (a && b) ≡ true
          both true b e f = f
          both false b e f = absurd (cc)

  pub begins_kept : (i d n : ℕ) → Alike bs cs i d n → begins_name bs i ≡ true → run_end classes.Name bs i ≤ i + n → begins_name cs d ≡ true
  unfolding begins_name
  begins_kept i d n a e l = go (starts_at bs i) refl
    where
      dashed : (byte bs i == sign "-") ≡ true → (starts_at bs (i + 1) || (byte bs (i + 1) == sign "-")) ≡ true → begins_name cs d ≡ true
      dashed dash second = in_or (starts_at cs d) _ (both (byte cs d == sign "-") _ (ap (λ (b : ℕ). b == sign "-") (sym same) ∙ dash) (behind (starts_at bs (i + 1)) refl))
        where
          both : (a b : Bool) → a ≡ true → b ≡ true → (a && b) ≡ true
          both true b e f = f
          both false b e f = absurd (cc)

          is_dash : (b : ℕ) → (b == sign "-") ≡ true → is_name_byte b ≡ true
          is_dash b e = grind (arith, nat_tests)

          here : on bs i ≡ i + 1
          here = if_true (is_name_byte (byte bs i)) (i + 1) (escape_end bs i) (is_dash (byte bs i) dash)

          run_on : run_end classes.Name bs (i + 1) ≡ run_end classes.Name bs i
          run_on = ap (run_end classes.Name bs) (sym here) ∙ run_step bs classes.Name i (let h = here in omega (arith, h))

          same : byte bs i ≡ byte cs d
          same = let h = here in let f = run_over bs i (omega (arith, h)) in first bs cs i d n (omega (arith, f, h, l)) a

          behind : (t : Bool) → starts_at bs (i + 1) ≡ t → (starts_at cs (d + 1) || (byte cs (d + 1) == sign "-")) ≡ true
          behind true t =
              let r = run_on in let h = here in let f = run_over bs i (omega (arith, h)) in
              or_in (starts_at cs (d + 1)) _ (starts_kept (i + 1) (d + 1) (n - 1) (later bs cs 1 i d n a) t (omega (arith, r, l, f, h)))
          behind false t =
              let two = or_or (starts_at bs (i + 1)) (byte bs (i + 1) == sign "-") second t in
              let on_two = if_true (is_name_byte (byte bs (i + 1))) ((i + 1) + 1) (escape_end bs (i + 1)) (is_dash (byte bs (i + 1)) two) in
              let r = run_on in let f = run_over bs (i + 1) (omega (arith, on_two)) in
              in_or (starts_at cs (d + 1)) _ (ap (λ (b : ℕ). b == sign "-") (sym (a 1 (omega (arith, r, f, on_two, l)))) ∙ two)

      go : (t : Bool) → starts_at bs i ≡ t → begins_name cs d ≡ true
      go true t = starts_begins cs d (starts_kept i d n a t l)
      go false t =
          let rest = or_or (starts_at bs i) ((byte bs i == sign "-") && (starts_at bs (i + 1) || (byte bs (i + 1) == sign "-"))) e t in
          dashed (and_left (byte bs i == sign "-") _ rest) (and_right (byte bs i == sign "-") _ rest)
