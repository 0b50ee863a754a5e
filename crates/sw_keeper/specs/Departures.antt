-- Questions whose other answer is a cause.
use Rattle.std.specs.Prelude.{◌≡◌, ◌≢◌, ℕ, List, slice_get, Some}
use Rattle.sw_world.specs.declared.question.Question.{Question}
use Rattle.sw_world.specs.declared.answer.Answer.{Answer}
use Rattle.sw_world.specs.Questions.{Fits}
use Rattle.sw_world.specs.Body.{Pair}
use Rattle.sw_record.specs.Kept.{Kept}

-- the question can be answered in two ways
pub record HasTwoAnswers (op : Question) : Type 0 where
  pub one : Answer
  pub other : Answer
  pub fits_one : Fits op one
  pub fits_other : Fits op other
  pub differ : one ≢ other

-- the run at a place has such a question at a place of its pairs
pub record CanDepart (runs : List Kept) (near at : ℕ) : Type 0 where
  pub kept : Kept
  pub here : slice_get runs near ≡ Some kept
  pub pair : Pair
  pub there : slice_get kept.run.seen at ≡ Some pair
  pub two : HasTwoAnswers pair.0
