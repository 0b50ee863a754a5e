-- The next line that isn't blank, and where a comment ends: within the text, and where a character ends.
use Rattle.std.proofs.Common.{◌≡◌, ℕ, zero, suc, ◌+◌, ◌-◌, ◌≤◌, ◌<◌, true, false, not, ◌&&◌, List, refl, sym, ◌∙◌, ap, subst, arith, length, Option, Some, None}
use Rattle.std.specs.Prelude.{◌==◌, nat_lt}
use Rattle.std.specs.Str.{IsCharBoundary}
use Rattle.std.proofs.lemmas.Bool.Decides.{nat_tests}
use Rattle.sw_text_scan.specs.declared.signs.TheConstants.{END, FIRST_WIDE}
use Rattle.sw_text_scan.specs.Bytes.{sign, byte, is_break, ends_loud, is_wide}
use Rattle.sw_text_scan.proofs.Bounds.{if_true, if_false, in_text, not_end, and_right}
use Rattle.sw_text_scan.proofs.Progress.{either}
use Rattle.sw_tokens.proofs.Cuts.{IsText, cut_plain, cut_after}
use Rattle.sw_parse_layout.specs.declared.lines.Margin.{Margin}
use Rattle.sw_parse_layout.specs.declared.lines.Reach.{Reach}
use Rattle.sw_parse_layout.specs.declared.lines.Reach.TheVariants as reaches
use Rattle.sw_parse_layout.specs.declared.lines.Over.{Over}
use Rattle.sw_parse_layout.specs.declared.lines.Over.TheVariants as overs
use Rattle.sw_parse_layout.specs.Lines.{is_blank, margin_from, next_margin, deeper, ends_at_sign, onto, over_line, look_over, comment_with, comment_from, comment_end}

module _ (bs : List ℕ) where
  -- the loops, step by step

  pub ahead_break : (n start i : ℕ) → 0 < n → is_break (byte bs i) ≡ true
      → margin_from bs n start i ≡ margin_from bs (n - 1) (i + 1) (i + 1)
  ahead_break zero start i z m = absurd (omega arith)
  ahead_break (suc n) start i z m =
      if_true (is_break (byte bs i)) _ _ m ∙ ap (λ (k : ℕ). margin_from bs k (i + 1) (i + 1)) less
    where
      less : n ≡ suc n - 1
      less = omega arith

  pub ahead_blank : (n start i : ℕ) → 0 < n → is_break (byte bs i) ≡ false → is_blank (byte bs i) ≡ true
      → margin_from bs n start i ≡ margin_from bs (n - 1) start (i + 1)
  ahead_blank zero start i z other m = absurd (omega arith)
  ahead_blank (suc n) start i z other m =
      if_false (is_break (byte bs i)) _ _ other ∙ if_true (is_blank (byte bs i)) _ _ m ∙ ap (λ (k : ℕ). margin_from bs k
      start (i + 1)) less
    where
      less : n ≡ suc n - 1
      less = omega arith

  pub ahead_stop : (n start i : ℕ) → is_break (byte bs i) ≡ false → is_blank (byte bs i) ≡ false
      → margin_from bs n start i ≡ record { start = start; text = i }
  ahead_stop zero start i other dark = refl
  ahead_stop (suc n) start i other dark =
      if_false (is_break (byte bs i)) _ _ other ∙ if_false (is_blank (byte bs i)) _ _ dark

  pub record AheadStands (i : ℕ) (a : Margin) : Type 0 where
    pub forward : i ≤ a.text
    pub within : a.text ≤ length bs
    pub order : a.start ≤ a.text

  from_later : (i j : ℕ) (a : Margin) → i ≤ j → AheadStands j a → AheadStands i a
  from_later i j a l s = record { forward = (let f = s.forward in omega arith); within = s.within; order = s.order }

  ahead_stands : (n start i : ℕ) → i ≤ length bs → start ≤ i → AheadStands i (margin_from bs n start i)
  ahead_stands zero start i l o = record { forward = omega arith; within = l; order = o }
  ahead_stands (suc n) start i l o =
      either (AheadStands i) (is_break (byte bs i)) _ _
      (λ m. let lt = in_text is_break bs i refl m in from_later i (i + 1) _ (omega arith) (ahead_stands n (i + 1) (i +
      1) (omega arith) (omega arith)))
      (λ _. either (AheadStands i) (is_blank (byte bs i)) _ _
      (λ m. let lt = in_text is_blank bs i refl m in from_later i (i + 1) _ (omega arith) (ahead_stands n start (i + 1)
      (omega arith) (omega arith)))
      (λ _. record { forward = omega arith; within = l; order = o }))

  pub next_margin_stands : (i : ℕ) → i ≤ length bs → AheadStands i (next_margin bs i)
  unfolding next_margin
  next_margin_stands i l = ahead_stands (length bs) i i l (omega arith)

  -- behind a line break it goes forward
  past_break : (n i : ℕ) → 0 < n → i < length bs → is_break (byte bs i) ≡ true
      → AheadStands (i + 1) (margin_from bs n i i)
  past_break n i z l m =
      subst (AheadStands (i + 1)) (sym (ahead_break n i i z m)) (ahead_stands (n - 1) (i + 1) (i + 1) (omega arith)
      (omega arith))

  pub data Onto (i : ℕ) : Option ℕ → Type 0 where
    none : Onto i None
    some : {j : ℕ} → i < j → j ≤ length bs → Onto i (Some j)

  pub deeper_onto : (depth i : ℕ) → i < length bs → is_break (byte bs i) ≡ true → Onto i (deeper bs depth i)
  unfolding deeper next_margin
  deeper_onto depth i l m =
      let a = past_break (length bs) i (omega arith) l m in
      either (Onto i) (not (byte bs (margin_from bs (length bs) i i).text == END) && nat_lt depth ((margin_from bs
      (length bs) i i).text - (margin_from bs (length bs) i i).start)) _ _
      (λ _. some (let f = a.forward in omega arith) a.within) (λ _. none)

  -- a comment goes on, or ends where a character ends
  pub data OverStands (i : ℕ) : Over → Type 0 where
    stops : {j : ℕ} → i ≤ j → j ≤ length bs → (IsText bs → IsCharBoundary bs j) → OverStands i (overs.Stops j)
    goes : {j : ℕ} → i < j → j ≤ length bs → OverStands i (overs.Goes j)

  onto_stands : (i : ℕ) (o : Option ℕ) → i ≤ length bs → (IsText bs → IsCharBoundary bs i) → Onto i o
      → OverStands i (onto o i)
  onto_stands i None l cut none = stops (omega arith) l cut
  onto_stands i (Some j) l cut (some f w) = goes f w

  over_line_stands : (reach : Reach) (i : ℕ) → i < length bs → (IsText bs → IsCharBoundary bs i)
      → is_break (byte bs i) ≡ true → OverStands i (over_line bs reach i)
  over_line_stands (reaches.Lines depth) i l cut m =
      onto_stands i (deeper bs depth i) (omega arith) cut (deeper_onto depth i l m)
  over_line_stands (reaches.Sign depth) i l cut m =
      onto_stands i (deeper bs depth i) (omega arith) cut (deeper_onto depth i l m)
  over_line_stands reaches.Joined i l cut m = goes (omega arith) (omega arith)

  break_narrow : (b : ℕ) → is_break b ≡ true → is_wide b ≡ false
  break_narrow b m = grind (arith, nat_tests)

  end_narrow : (b : ℕ) → (b == END) ≡ true → is_wide b ≡ false
  end_narrow b m = grind (arith, nat_tests)

  pub break_cut : (i : ℕ) → i ≤ length bs → is_break (byte bs i) ≡ true → IsText bs → IsCharBoundary bs i
  break_cut i l m text = cut_plain bs text i l (break_narrow (byte bs i) m)

  pub end_cut : (i : ℕ) → i ≤ length bs → (byte bs i == END) ≡ true → IsText bs → IsCharBoundary bs i
  end_cut i l m text = cut_plain bs text i l (end_narrow (byte bs i) m)

  sign_in : (i : ℕ) → ends_loud bs i ≡ true → i + 1 < length bs
  sign_in i m =
      in_text (λ b. b == sign "/") bs (i + 1) refl (and_right (byte bs i == sign "*") (byte bs (i + 1) == sign "/") m)

  pub sign_within : (i : ℕ) → ends_loud bs i ≡ true → i + 2 ≤ length bs
  sign_within i m = let lt = sign_in i m in omega arith

  pub sign_cut : (i : ℕ) → ends_loud bs i ≡ true → IsText bs → IsCharBoundary bs (i + 2)
  sign_cut i m text =
      subst (IsCharBoundary bs) same (cut_after bs text (i + 1) (sign_in i m) (go (byte bs (i + 1)) (and_right (byte bs
      i == sign "*") (byte bs (i + 1) == sign "/") m)))
    where
      same : (i + 1) + 1 ≡ i + 2
      same = omega arith

      go : (b : ℕ) → (b == sign "/") ≡ true → b < FIRST_WIDE
      go b m = grind (arith, nat_tests)

  pub look_over_stands : (reach : Reach) (i : ℕ) → i ≤ length bs → OverStands i (look_over bs reach i)
  unfolding look_over
  look_over_stands reach i l =
      either (OverStands i) (ends_at_sign reach && ends_loud bs i) _ _
      (λ m. let sign = and_right (ends_at_sign reach) (ends_loud bs i) m in stops (omega arith) (sign_within i sign)
      (sign_cut i sign))
      (λ _. either (OverStands i) (byte bs i == END) _ _ (λ m. stops (omega arith) l (end_cut i l m))
      (λ inside. either (OverStands i) (is_break (byte bs i)) _ _
      (λ m. over_line_stands reach i (not_end bs i inside) (break_cut i l m) m)
      (λ _. let lt = not_end bs i inside in goes (omega arith) (omega arith))))

  goes_within : (i j : ℕ) (o : Over) → OverStands i o → o ≡ overs.Goes j → j ≤ length bs
  goes_within i j (overs.Stops k) s e = absurd (cc)
  goes_within i j (overs.Goes k) (goes f w) e = go k j w (ap place e)
    where
      place : Over → ℕ
      place (overs.Stops k) = k
      place (overs.Goes k) = k

      go : (k j : ℕ) → k ≤ length bs → k ≡ j → j ≤ length bs
      go k j w e = omega arith

  ends_within : (i j : ℕ) (o : Over) → OverStands i o → o ≡ overs.Stops j → j ≤ length bs
  ends_within i j (overs.Goes k) s e = absurd (cc)
  ends_within i j (overs.Stops k) (stops f w cut) e = go k j w (ap place e)
    where
      place : Over → ℕ
      place (overs.Stops k) = k
      place (overs.Goes k) = k

      go : (k j : ℕ) → k ≤ length bs → k ≡ j → j ≤ length bs
      go k j w e = omega arith

  -- a comment ends within the text
  pub look_over_ends : (reach : Reach) (i j : ℕ) → i ≤ length bs → look_over bs reach i ≡ overs.Stops j → j ≤ length bs
  look_over_ends reach i j l e = ends_within i j (look_over bs reach i) (look_over_stands reach i l) e

  pub look_over_within : (reach : Reach) (i j : ℕ) → i ≤ length bs → look_over bs reach i ≡ overs.Goes j → j ≤ length bs
  look_over_within reach i j l e = goes_within i j (look_over bs reach i) (look_over_stands reach i l) e

module _ (bs : List ℕ) (text : IsText bs) where
  pub record Reached (i j : ℕ) : Type 0 where
    pub forward : i ≤ j
    pub within : j ≤ length bs
    pub cut : IsCharBoundary bs j

  pub comment_stands : (reach : Reach) (n i : ℕ) → i ≤ length bs → length bs < n + i
      → Reached i (comment_from bs reach n i)
  comment_stands reach zero i l enough = absurd (omega arith)
  comment_stands reach (suc n) i l enough =
      go (look_over bs reach i) (look_over_stands bs reach i l) (λ j m w. comment_stands reach n j w (omega arith))
    where
      go : (o : Over) → OverStands bs i o → ((j : ℕ) → i < j → j ≤ length bs → Reached j (comment_from bs reach n j))
          → Reached i (comment_with (comment_from bs reach n) o)
      go (overs.Stops j) (stops f w cut) ih = record { forward = f; within = w; cut = cut text }
      go (overs.Goes j) (goes f w) ih =
          let later = ih j f w in let g = later.forward in record {
            forward = omega arith;
            within = later.within;
            cut =
                later.cut;
          }

  pub comment_end_stands : (reach : Reach) (i : ℕ) → i ≤ length bs → Reached i (comment_end bs reach i)
  unfolding comment_end
  comment_end_stands reach i l = comment_stands reach (suc (length bs)) i l (omega arith)

module _ (bs : List ℕ) where
  pub comment_forward : (reach : Reach) (n i : ℕ) → i ≤ length bs → i ≤ comment_from bs reach n i
  comment_forward reach zero i l = omega arith
  comment_forward reach (suc n) i l =
      go (look_over bs reach i) (look_over_stands bs reach i l) (λ j w. comment_forward reach n j w)
    where
      go : (o : Over) → OverStands bs i o → ((j : ℕ) → j ≤ length bs → j ≤ comment_from bs reach n j)
          → i ≤ comment_with (comment_from bs reach n) o
      go (overs.Stops j) (stops f w cut) ih = f
      go (overs.Goes j) (goes f w) ih = let later = ih j w in omega arith

-- the loop over a comment
module _ (bs : List ℕ) where
  from_stop : (reach : Reach) (n i j : ℕ) → 0 < n → look_over bs reach i ≡ overs.Stops j → comment_from bs reach n i ≡ j
  from_stop reach zero i j z e = absurd (omega arith)
  from_stop reach (suc n) i j z e = ap (comment_with (comment_from bs reach n)) e

  from_on : (reach : Reach) (n m i j : ℕ) → n ≡ suc m → look_over bs reach i ≡ overs.Goes j
      → comment_from bs reach n i ≡ comment_from bs reach m j
  from_on reach n m i j less e =
      ap (λ (k : ℕ). comment_from bs reach k i) less ∙ ap (comment_with (comment_from bs reach m)) e

  pub comment_stop : (reach : Reach) (step i j : ℕ) → step < length bs + 1 → look_over bs reach i ≡ overs.Stops j
      → comment_from bs reach (suc (length bs) - step) i ≡ j
  comment_stop reach step i j l e = from_stop reach (suc (length bs) - step) i j (omega arith) e

  pub comment_on : (reach : Reach) (step i j : ℕ) → step < length bs + 1 → look_over bs reach i ≡ overs.Goes j
      → comment_from bs reach (suc (length bs) - step) i ≡ comment_from bs reach (suc (length bs) - (step + 1)) j
  comment_on reach step i j l e =
      from_on reach (suc (length bs) - step) (suc (length bs) - (step + 1)) i j (omega arith) e
