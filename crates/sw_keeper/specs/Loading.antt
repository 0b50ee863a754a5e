-- Loads at which kept runs are.
use Rattle.std.specs.Prelude.{◌≡◌, ℕ, ◌+◌, Bool, List, slice_get, Some}
use Rattle.sw_world.specs.declared.question.Question.{Question}
use Rattle.sw_world.specs.declared.answer.Answer.{Answer}
use Rattle.sw_world.specs.Questions.{IsLoad, Fits}
use Rattle.sw_world.specs.Body.{Pair}
use Rattle.sw_record.specs.Kept.{Kept}
use Rattle.sw_record.specs.Together.{IsMarked, HasMark, AreNarrowed}
use Rattle.sw_keeper.specs.declared.loading.Came.{Came}
use Rattle.sw_keeper.specs.declared.loading.Came.TheVariants.{Whole, Next, Upto}
use Rattle.sw_keeper.specs.Departing.{DepartsBy}

-- it is the question of a marked run at a place
pub record IsLoadOf (runs : List Kept) (marks : List Bool) (at : ℕ) (op : Question) : Type 0 where
  pub near : ℕ
  pub kept : Kept
  pub pair : Pair
  pub marked : IsMarked marks near
  pub here : slice_get runs near ≡ Some kept
  pub there : slice_get kept.run.seen at ≡ Some pair
  pub op_is : op ≡ pair.0
  pub load : IsLoad op

-- the answer fits what each marked run asks there
abbrev pub AllFit : List Kept → List Bool → ℕ → Answer → Type 0
AllFit runs marks at answer =
    (place : ℕ) (kept : Kept) (pair : Pair) → IsMarked marks place → slice_get runs place ≡ Some kept
    → slice_get kept.run.seen at ≡ Some pair → Fits pair.0 answer

-- where the answer is that of marked runs, these go on; else one departs
abbrev pub IsAnswered : List Kept → List Bool → ℕ → Answer → Came → Type 0
IsAnswered runs marks at answer (Whole place) = ⊥
IsAnswered runs marks at answer (Next alive to) =
    AreNarrowed runs marks at answer alive × HasMark alive × (to ≡ at + 1)
IsAnswered runs marks at answer (Upto departure) =
    (left : List Bool) × AreNarrowed runs marks at answer left × ((place : ℕ) → IsMarked left place → ⊥)
    × ((near : ℕ) × IsMarked marks near × DepartsBy runs near at answer departure)
