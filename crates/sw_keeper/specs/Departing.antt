-- Departures at a place of a kept run.
use Rattle.std.specs.Prelude.{◌≡◌, ℕ, List, [], ◌∷◌, ◌++◌, take, slice_get, Some}
use Rattle.sw_world.specs.declared.answer.Answer.{Answer}
use Rattle.sw_world.specs.Body.{Pair}
use Rattle.sw_record.specs.Kept.{Kept}
use Rattle.sw_record.specs.Ran.{IsCauseBy}
use Rattle.sw_keeper.specs.declared.departure.Departure.{Departure}

-- the known pairs are those of the run up to a place, and then its question there with this answer
pub record DepartsBy (runs : List Kept) (near at : ℕ) (answer : Answer) (departure : Departure) : Type 0 where
  pub kept : Kept
  pub here : slice_get runs near ≡ Some kept
  pub pair : Pair
  pub there : slice_get kept.run.seen at ≡ Some pair
  pub known_is : departure.known ≡ take at kept.run.seen ++ (pair.0, answer) ∷ []
  pub by : IsCauseBy pair.0 departure.cause
