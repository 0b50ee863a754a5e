-- One step of a walk that looks ahead.
use Rattle.std.proofs.Common.{◌≡◌, ℕ, suc, ◌+◌, ◌-◌, ◌<◌, ◌≤◌, List, Option, Some, None, length, ◌⊎◌, inl, inr, sym, ◌∙◌, ap, arith}
use Rattle.sw_parse_lexemes.specs.declared.plain.Plain.{Plain}
use Rattle.sw_parse_lexemes.specs.declared.state.Walk.{Walk}
use Rattle.sw_parse_lexemes.specs.Ahead.{sort_at, spaced_at, walk_step, walk_by, walk_from}

lt_or_le : (a b : ℕ) → (a < b) ⊎ (b ≤ a)
lt_or_le a b = grind arith

abbrev stepped : Walk → List Plain → ℕ → ℕ → Option ℕ → ℕ
stepped walk plains n at next = elim next as (λ _. ℕ) [ None ↦ at | Some more ↦ walk_by walk plains n more (at + 1) ]

one_step : (walk : Walk) (plains : List Plain) (count at : ℕ) → at < length plains
    → walk_by walk plains (length plains - at) count at ≡ stepped walk plains (length plains - (at + 1)) at (walk_step walk (sort_at plains at) (spaced_at plains at) count)
one_step walk plains count at l = ap (λ (n : ℕ). walk_by walk plains n count at) left
  where
    left : length plains - at ≡ suc (length plains - (at + 1))
    left = omega (arith, l)

pub walk_more : (walk : Walk) (plains : List Plain) (count more at : ℕ) → at < length plains → walk_step walk (sort_at plains at) (spaced_at plains at) count ≡ Some more
    → walk_by walk plains (length plains - (at + 1)) more (at + 1) ≡ walk_by walk plains (length plains - at) count at
walk_more walk plains count more at l e = sym (one_step walk plains count at l ∙ ap (stepped walk plains (length plains - (at + 1)) at) e)

pub walk_stops : (walk : Walk) (plains : List Plain) (count at : ℕ) → at < length plains → walk_step walk (sort_at plains at) (spaced_at plains at) count ≡ None
    → walk_by walk plains (length plains - at) count at ≡ at
walk_stops walk plains count at l e = one_step walk plains count at l ∙ ap (stepped walk plains (length plains - (at + 1)) at) e

pub walk_ends : (walk : Walk) (plains : List Plain) (count at : ℕ) → length plains ≤ at → walk_by walk plains (length plains - at) count at ≡ at
walk_ends walk plains count at l = ap (λ (n : ℕ). walk_by walk plains n count at) none
  where
    none : length plains - at ≡ 0
    none = omega (arith, l)

-- a walk that ends where it begins
pub walk_none : (walk : Walk) (plains : List Plain) (count at : ℕ) → walk_step walk (sort_at plains at) (spaced_at plains at) count ≡ None
    → walk_from walk plains count at ≡ at
unfolding walk_from
walk_none walk plains count at e = elim (lt_or_le at (length plains)) [
  | inl l ↦ walk_stops walk plains count at l e
  | inr l ↦ walk_ends walk plains count at l
]
