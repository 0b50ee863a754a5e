-- One frame less on the way to the innermost `#{`.
use Rattle.std.proofs.Common.{◌≡◌, ℕ, ◌-◌, ◌<◌, Bool, true, false, if◌then◌else◌, List, [], ◌∷◌, length, take, refl, sym, ◌∙◌, ap, arith}
use Rattle.std.proofs.lemmas.List.{length-take}
use Rattle.sw_parse_lexemes.specs.declared.state.Frame.{Frame}
use Rattle.sw_parse_lexemes.specs.Brackets.{innermost}
use Rattle.sw_parse_lexemes.specs.Steps.{is_inserting, below_insert}

pub below_step : (frames : List Frame) → is_inserting (innermost frames) ≡ false
    → below_insert (length (take (length frames - 1) frames)) (take (length frames - 1) frames) ≡ below_insert (length frames) frames
below_step [] e = absurd (cc)
below_step (x ∷ xs) e =
    ap (λ (n : ℕ). below_insert n (take (length (x ∷ xs) - 1) (x ∷ xs))) less
    ∙ sym (ap (λ (b : Bool). if b then x ∷ xs else below_insert (length xs) (take (length (x ∷ xs) - 1) (x ∷ xs))) e)
  where
    less : length (take (length (x ∷ xs) - 1) (x ∷ xs)) ≡ length xs
    less = omega (arith, length-take (length (x ∷ xs) - 1) (x ∷ xs))

pub below_smaller : (frames : List Frame) → is_inserting (innermost frames) ≡ false → length (take (length frames - 1) frames) < length frames
below_smaller [] e = absurd (cc)
below_smaller (x ∷ xs) e = omega (arith, length-take (length (x ∷ xs) - 1) (x ∷ xs))

pub below_end : (frames : List Frame) → is_inserting (innermost frames) ≡ true → below_insert (length frames) frames ≡ frames
below_end [] e = refl
below_end (x ∷ xs) e = ap (λ (b : Bool). if b then x ∷ xs else below_insert (length xs) (take (length (x ∷ xs) - 1) (x ∷ xs))) e
