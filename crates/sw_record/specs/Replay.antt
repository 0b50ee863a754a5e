-- What asking the questions of one kept run again comes to (this project's own rule).
use Rattle.std.specs.Prelude.{◌≡◌, ℕ, ◌≤◌, List, length, Option, None, Some, slice_get, slice_range}
use Rattle.sw_world.specs.declared.question.Question.{Question}
use Rattle.sw_world.specs.declared.answer.Answer.{Answer}
use Rattle.sw_world.specs.Questions.{IsLoad, Fits}
use Rattle.sw_world.specs.Body.{Pair, Leads}
use Rattle.sw_record.specs.declared.again.Again.{Again}
use Rattle.sw_record.specs.declared.again.Again.TheVariants.{Same, Load, Differs}

-- the questions from one place up to another, asked in order, are answered as they were kept; none is a load
abbrev pub AskedAgain : {W : Type 0} → (W → Question → Answer → W → Type 0) → List Pair → ℕ → ℕ → W → W → Type 0
AskedAgain gives seen from to w after =
    (from ≤ to) × (to ≤ length seen) × Leads gives w (slice_range seen from to) after

-- the question is answered as it was kept, or otherwise
abbrev pub IsOther : {W : Type 0} → (W → Question → Answer → W → Type 0) → Question → Answer → Option Answer → W → W → Type 0
IsOther gives op kept None w after = gives w op kept after
IsOther gives op kept (Some answer) w after = gives w op answer after × (kept ≡ answer → ⊥) × Fits op answer

-- the question at the place is a load
pub record LoadAt (seen : List Pair) (at : ℕ) : Type 0 where
  pub pair : Pair
  pub here : slice_get seen at ≡ Some pair
  pub load : IsLoad pair.0

-- the question at the place is no load, and was answered otherwise
pub record DiffersAt {W : Type 0} (gives : W → Question → Answer → W → Type 0) (seen : List Pair) (at : ℕ) (answer : Answer)
    (w after : W) : Type 0 where
  pub pair : Pair
  pub here : slice_get seen at ≡ Some pair
  pub plain : IsLoad pair.0 → ⊥
  pub given : gives w pair.0 answer after
  pub differs : pair.1 ≡ answer → ⊥
  pub fits : Fits pair.0 answer

abbrev pub IsAgain : {W : Type 0} → (W → Question → Answer → W → Type 0) → List Pair → ℕ → Again → W → W → Type 0
IsAgain gives seen from Same w after = AskedAgain gives seen from (length seen) w after
IsAgain gives seen from (Load at) w after = AskedAgain gives seen from at w after × LoadAt seen at
IsAgain {W} gives seen from (Differs at answer) w after =
    (mid : W) × AskedAgain gives seen from at w mid × DiffersAt gives seen at answer mid after
