-- Tokens of raw text where they are written: where each of them stands.
use Rattle.std.proofs.Common.{◌≡◌, ◌≤◌, ℕ, suc, ◌+◌, ◌-◌, Bool, true, false, List, [], ◌∷◌, ◌++◌, length, refl, sym, ◌∙◌, ap, subst, arith, append_assoc, append-nil, length-append}
use Rattle.std.specs.Prelude.{slice_range}
use Rattle.sw_parse_table.specs.declared.source.Source.{Source}
use Rattle.sw_parse_table.specs.Sources.{bytes, from_in, to_in, from_at, to_at, commented_in, is_commented}
use Rattle.sw_convert_written.specs.Escapes.{apart}
use Rattle.sw_convert_again.specs.Tokens.{Extent, extent, shifted}
use Rattle.sw_convert_tokens.specs.Joints.{Seen, Joint, Token, Apart, text, toks, Sits, Sit}
use Rattle.sw_convert_tokens.proofs.Laid.{range_behind}
use Rattle.sw_convert_texts.proofs.AroundTexts.{Step, Beside}

-- ---- places of values

pub shifted_append : (by : ℕ) (xs ys : List Extent) → shifted by (xs ++ ys) ≡ shifted by xs ++ shifted by ys
shifted_append by [] ys = refl
shifted_append by (x ∷ xs) ys = ap (λ (list : List Extent). extent (by + x.first) (by + x.behind) ∷ list) (shifted_append by xs ys)

pub shifted_twice : (by more all : ℕ) (xs : List Extent) → by + more ≡ all → shifted by (shifted more xs) ≡ shifted all xs
shifted_twice by more all [] e = refl
shifted_twice by more all (x ∷ xs) e =
    ap (λ (n : ℕ). extent n (by + (more + x.behind)) ∷ shifted by (shifted more xs)) (let z : by + (more + x.first) ≡ all + x.first = omega (arith, e) in z)
    ∙ ap (λ (n : ℕ). extent (all + x.first) n ∷ shifted by (shifted more xs)) (let z : by + (more + x.behind) ≡ all + x.behind = omega (arith, e) in z)
    ∙ ap (λ (list : List Extent). extent (all + x.first) (all + x.behind) ∷ list) (shifted_twice by more all xs e)

-- ---- tokens

-- a comment is the last of them, or stood before them where there are none
abbrev pub ends_apart : Bool → List Joint → Bool
ends_apart apart_before [] = apart_before
ends_apart apart_before (Token seen ∷ joints) = ends_apart false joints
ends_apart apart_before (Apart ∷ joints) = ends_apart true joints

pub ends_append : (b : Bool) (xs ys : List Joint) → ends_apart b (xs ++ ys) ≡ ends_apart (ends_apart b xs) ys
ends_append b [] ys = refl
ends_append b (Token seen ∷ xs) ys = ends_append false xs ys
ends_append b (Apart ∷ xs) ys = ends_append true xs ys

module _ (new : Source) where
  pub at_next : (at : ℕ) (front : List ℕ) (seen : Seen) (rest : List ℕ) (commented : Bool) → Sits new commented at front seen rest
      → to_at new at ≡ length (front ++ seen.bytes)
  unfolding to_at
  at_next at front seen rest commented sits =
      ap (to_in new) sits.there ∙ sits.to ∙ sym (length-append front seen.bytes)

  pub beside_sits : (at : ℕ) (front : List ℕ) (seen : Seen) (rest : List ℕ) → to_at new at ≡ length front
      → Sits new false (suc at) (front ++ seen.gap) seen rest → Beside new at seen.gap
  unfolding from_at is_commented
  beside_sits at front seen rest end sits =
      let from : from_at new (suc at) ≡ length (front ++ seen.gap) = ap (from_in new) sits.there ∙ sits.from in
      let long = length-append front seen.gap in record {
        calm = ap (commented_in new) sits.there ∙ sits.commented_is;
        gap_is = ap (λ (m : ℕ). slice_range (bytes new) m (from_at new (suc at))) end
            ∙ ap (slice_range (bytes new) (length front)) (from ∙ long)
            ∙ ap (λ (t : List ℕ). slice_range t (length front) (length front + length seen.gap))
            (sits.text_is ∙ append_assoc front seen.gap (seen.bytes ++ rest))
            ∙ range_behind front seen.gap (seen.bytes ++ rest);
        low = omega (arith, end, from, long);
      }

  -- its own text
  pub record OwnText (at : ℕ) (own : List ℕ) : Type 0 where
    pub text_is : slice_range (bytes new) (from_at new at) (to_at new at) ≡ own
    pub high : from_at new at ≤ to_at new at

  pub own_sits : (at : ℕ) (front : List ℕ) (seen : Seen) (rest : List ℕ) (commented : Bool) → Sits new commented at front seen rest
      → OwnText at seen.bytes
  unfolding from_at to_at
  own_sits at front seen rest commented sits =
      let from : from_at new at ≡ length front = ap (from_in new) sits.there ∙ sits.from in
      let to : to_at new at ≡ length front + length seen.bytes = ap (to_in new) sits.there ∙ sits.to in record {
        text_is = ap (λ (m : ℕ). slice_range (bytes new) m (to_at new at)) from
            ∙ ap (slice_range (bytes new) (length front)) to
            ∙ ap (λ (t : List ℕ). slice_range t (length front) (length front + length seen.bytes)) sits.text_is
            ∙ range_behind front seen.bytes rest;
        high = omega (arith, from, to);
      }

  pub step_sits : (at : ℕ) (front : List ℕ) (seen : Seen) (rest : List ℕ) → to_at new at ≡ length front
      → Sits new false (suc at) (front ++ seen.gap) seen rest → Step new at seen.gap seen.bytes
  step_sits at front seen rest end sits =
      let beside = beside_sits at front seen rest end sits in
      let own = own_sits (suc at) (front ++ seen.gap) seen rest false sits in record {
        calm = beside.calm;
        gap_is = beside.gap_is;
        text_is = own.text_is;
        low = beside.low;
        high = own.high;
      }

  -- ---- behind tokens

  -- those behind others
  pub sit_right : (commented : Bool) (at : ℕ) (front : List ℕ) (xs ys : List Joint) (after : List ℕ)
      → Sit new commented at front (xs ++ ys) after
      → Sit new (ends_apart commented xs) (at + length (toks xs)) (front ++ text xs) ys after
  sit_right commented at front [] ys after sit =
      subst (λ (n : ℕ). Sit new commented n (front ++ []) ys after) (let z : at ≡ at + 0 = omega arith in z)
      (subst (λ (t : List ℕ). Sit new commented at t ys after) (sym (append-nil front)) sit)
  sit_right commented at front (Token seen ∷ xs) ys after (sits, sit) =
      subst (λ (n : ℕ). Sit new (ends_apart false xs) n (front ++ (seen.gap ++ (seen.bytes ++ text xs))) ys after)
      (let z : suc at + length (toks xs) ≡ at + suc (length (toks xs)) = omega arith in z)
      (subst (λ (t : List ℕ). Sit new (ends_apart false xs) (suc at + length (toks xs)) t ys after)
      (append_assoc (front ++ seen.gap) seen.bytes (text xs) ∙ append_assoc front seen.gap (seen.bytes ++ text xs))
      (sit_right false (suc at) ((front ++ seen.gap) ++ seen.bytes) xs ys after sit))
  sit_right commented at front (Apart ∷ xs) ys after sit =
      subst (λ (t : List ℕ). Sit new (ends_apart true xs) (at + length (toks xs)) t ys after)
      (append_assoc front apart (text xs))
      (sit_right true at (front ++ apart) xs ys after sit)

  -- the last of them ends where they do
  pub sit_end : (commented : Bool) (at : ℕ) (front : List ℕ) (xs : List Joint) (after : List ℕ)
      → (commented ≡ false → to_at new at ≡ length front) → Sit new commented (suc at) front xs after
      → ends_apart commented xs ≡ false → to_at new (at + length (toks xs)) ≡ length (front ++ text xs)
  sit_end commented at front [] after end sit e =
      ap (to_at new) (let z : at + 0 ≡ at = omega arith in z) ∙ end e ∙ ap length (sym (append-nil front))
  sit_end commented at front (Token seen ∷ xs) after end (sits, sit) e =
      ap (to_at new) (let z : at + suc (length (toks xs)) ≡ suc at + length (toks xs) = omega arith in z)
      ∙ sit_end false (suc at) ((front ++ seen.gap) ++ seen.bytes) xs after
      (λ f. at_next (suc at) (front ++ seen.gap) seen (text xs ++ after) commented sits) sit e
      ∙ ap length (append_assoc (front ++ seen.gap) seen.bytes (text xs) ∙ append_assoc front seen.gap (seen.bytes ++ text xs))
  sit_end commented at front (Apart ∷ xs) after end sit e =
      sit_end true at (front ++ apart) xs after (λ f. absurd (cc)) sit e
      ∙ ap length (append_assoc front apart (text xs))

  -- where the first of them begins a text
  pub sit_first : (commented : Bool) (at : ℕ) (front : List ℕ) (seen : Seen) (xs : List Joint) (after : List ℕ)
      → Sit new commented at front (Token seen ∷ xs) after → ends_apart false xs ≡ false
      → to_at new ((at + suc (length (toks xs))) - 1) ≡ length (front ++ (seen.gap ++ (seen.bytes ++ text xs)))
  sit_first commented at front seen xs after (sits, sit) e =
      ap (to_at new) (let z : (at + suc (length (toks xs))) - 1 ≡ at + length (toks xs) = omega arith in z)
      ∙ sit_end false at ((front ++ seen.gap) ++ seen.bytes) xs after
      (λ f. at_next at (front ++ seen.gap) seen (text xs ++ after) commented sits) sit e
      ∙ ap length (append_assoc (front ++ seen.gap) seen.bytes (text xs) ∙ append_assoc front seen.gap (seen.bytes ++ text xs))
