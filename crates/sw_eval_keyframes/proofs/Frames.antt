-- The selectors of keyframes, one at a time.
use Rattle.std.proofs.Common.{◌≡◌, ℕ, zero, suc, ◌+◌, ◌-◌, ◌<◌, ◌≤◌, true, false, List, [], ◌∷◌, ◌++◌, length, drop, get_or, Some, None, refl, sym, ◌∙◌, ap, arith, append_assoc}
use Rattle.std.specs.Prelude.{nat_le}
use Rattle.std.proofs.lemmas.Bool.Decides.{nat_tests}
use Rattle.sw_text_scan.proofs.Bounds.{if_true, if_false}
use Rattle.sw_eval_calls.proofs.Items.{next_item, drop_all}
use Rattle.sw_eval_calls.specs.CssCalls.{comma_behind}
use Rattle.sw_eval_keyframes.specs.Keyframes.{is_comma, comma_in, next_comma, pieces_in, is_frame, is_stray, frames_in, with_commas}
use Rattle.sw_eval_literals.specs.Trimming.{trimmed}

module _ (bs : List ℕ) where
  left_of : (at : ℕ) → at < length bs → length bs - at ≡ suc (length bs - (at + 1))
  left_of at lt = omega arith

  pub comma_here : (at : ℕ) → at < length bs → is_comma bs at ≡ true → comma_in (length bs - at) bs at ≡ at
  comma_here at lt e =
      ap (λ (k : ℕ). comma_in k bs at) (left_of at lt)
      ∙ if_true (is_comma bs at) at (comma_in (length bs - (at + 1)) bs (at + 1)) e

  pub comma_on : (at : ℕ) → at < length bs → is_comma bs at ≡ false → comma_in (length bs - at) bs at ≡ comma_in (length bs - (at + 1)) bs (at + 1)
  comma_on at lt e =
      ap (λ (k : ℕ). comma_in k bs at) (left_of at lt)
      ∙ if_false (is_comma bs at) at (comma_in (length bs - (at + 1)) bs (at + 1)) e

  pub comma_end : (at : ℕ) → length bs ≤ at → comma_in (length bs - at) bs at ≡ length bs
  comma_end at le = let none : length bs - at ≡ 0 = omega arith in ap (λ (k : ℕ). comma_in k bs at) none

  pub piece_last : (n : ℕ) (done : List (List ℕ)) (from to : ℕ) → 0 < n → to ≡ next_comma bs from → length bs ≤ to
      → done ++ trimmed bs from to ∷ [] ≡ done ++ pieces_in n bs from
  piece_last zero done from to z is le = absurd (omega arith)
  piece_last (suc n) done from to z is le =
      ap (λ (k : ℕ). done ++ trimmed bs from k ∷ []) is
      ∙ ap (λ (more : List (List ℕ)). done ++ trimmed bs from (next_comma bs from) ∷ more)
      (sym (if_true (nat_le (length bs) (next_comma bs from)) [] (pieces_in n bs (next_comma bs from + 1)) (ap (nat_le (length bs)) (sym is) ∙ grind (arith, nat_tests))))

  pub piece_next : (n : ℕ) (done : List (List ℕ)) (from to : ℕ) → 0 < n → to ≡ next_comma bs from → to < length bs
      → (done ++ trimmed bs from to ∷ []) ++ pieces_in (n - 1) bs (to + 1) ≡ done ++ pieces_in n bs from
  piece_next zero done from to z is lt = absurd (omega arith)
  piece_next (suc n) done from to z is lt =
      append_assoc done (trimmed bs from to ∷ []) (pieces_in (suc n - 1) bs (to + 1))
      ∙ ap (λ (k : ℕ). done ++ trimmed bs from to ∷ pieces_in k bs (to + 1)) less
      ∙ ap (λ (k : ℕ). done ++ trimmed bs from k ∷ pieces_in n bs (k + 1)) is
      ∙ ap (λ (more : List (List ℕ)). done ++ trimmed bs from (next_comma bs from) ∷ more)
      (sym (if_false (nat_le (length bs) (next_comma bs from)) [] (pieces_in n bs (next_comma bs from + 1)) (ap (nat_le (length bs)) (sym is) ∙ grind (arith, nat_tests))))
    where
      less : suc n - 1 ≡ n
      less = omega arith

-- ---- which of them are selectors

pub frame_next : (done pieces : List (List ℕ)) (i : ℕ) (piece : List ℕ) → i < length pieces → piece ≡ get_or pieces i piece → is_frame piece ≡ true
    → frames_in (done ++ piece ∷ []) (drop (i + 1) pieces) ≡ frames_in done (drop i pieces)
frame_next done pieces i piece lt is e = rw (next_item pieces i piece lt is, e) refl

pub frame_lost : (done pieces : List (List ℕ)) (i : ℕ) (piece : List ℕ) → i < length pieces → piece ≡ get_or pieces i piece → is_frame piece ≡ false → is_stray done piece ≡ true
    → frames_in done (drop i pieces) ≡ None
frame_lost done pieces i piece lt is e f = rw (next_item pieces i piece lt is, e, f) refl

pub frame_skipped : (done pieces : List (List ℕ)) (i : ℕ) (piece : List ℕ) → i < length pieces → piece ≡ get_or pieces i piece → is_frame piece ≡ false → is_stray done piece ≡ false
    → frames_in done (drop (i + 1) pieces) ≡ frames_in done (drop i pieces)
frame_skipped done pieces i piece lt is e f = rw (next_item pieces i piece lt is, e, f) refl

pub frames_end : (done pieces : List (List ℕ)) (i : ℕ) → length pieces ≤ i → frames_in done (drop i pieces) ≡ Some done
frames_end done pieces i le = rw (drop_all pieces i le) refl

-- ---- how they are written

pub between_next : (done behind frames : List (List ℕ)) (i : ℕ) (frame : List ℕ) → i < length frames → frame ≡ get_or frames i frame → behind ≡ done ++ comma_behind done
    → with_commas (behind ++ frame ∷ []) (drop (i + 1) frames) ≡ with_commas done (drop i frames)
between_next done behind frames i frame lt is made = rw (next_item frames i frame lt is, made) refl

pub between_end : (done frames : List (List ℕ)) (i : ℕ) → length frames ≤ i → with_commas done (drop i frames) ≡ done
between_end done frames i le = rw (drop_all frames i le) refl
