-- The first part of a text that is cut at its slashes.
use Rattle.std.proofs.Common.{◌≡◌, ℕ, ◌+◌, Bool, true, false, cond, not, List, [], ◌∷◌, ◌<◌, length, ◌∙◌, ap, sym, refl, arith}
use Rattle.std.proofs.lemmas.List.Splits.{slice_split_first}
use Rattle.std.specs.List.{position_or_len, before_first, after_first, onto_first}
use Rattle.sw_folder.specs.Paths.{is_slash, segments}

pub segments-first : (text first rest : List ℕ) → position_or_len is_slash text < length text → first ≡ before_first is_slash text → rest ≡ after_first is_slash text
    → segments text ≡ first ∷ segments rest
segments-first text first rest within is after = slice_split_first is_slash text 0 within ∙ ap (λ f. f ∷ segments (after_first is_slash text)) (sym is) ∙ ap (λ r. first ∷ segments r) (sym after)

-- a text without slashes is one part
pub segments-whole : (text : List ℕ) → position_or_len is_slash text ≡ length text → segments text ≡ text ∷ []
segments-whole [] e = refl
segments-whole (x ∷ xs) e = by (is_slash x) e (λ h. segments-whole xs h)
  where
    by : (b : Bool) → cond (not b) (1 + position_or_len is_slash xs) 0 ≡ length (x ∷ xs) → (position_or_len is_slash xs ≡ length xs → segments xs ≡ xs ∷ [])
        → cond b ([] ∷ segments xs) (onto_first x (segments xs)) ≡ (x ∷ xs) ∷ []
    by true e rest = absurd (omega arith)
    by false e rest = let same : position_or_len is_slash xs ≡ length xs = omega arith in ap (onto_first x) (rest same)
