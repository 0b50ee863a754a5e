-- How questions with their answers are kept: each distinct one once, and then which of these stand in which order.
use Rattle.std.specs.Prelude.{ℕ, ◌<◌, Bool, ◌&&◌, nat_lt, List, length, slice_get}
use Rattle.std.specs.List.{All, filter_map}
use Rattle.sw_world.specs.Body.{Pair}

-- the pairs at these places of the distinct ones
abbrev pub listed : List Pair → List ℕ → List Pair
listed distinct places = filter_map (slice_get distinct) places

-- the distinct ones have all these places
abbrev pub AreIn : List Pair → List ℕ → Type 0
AreIn distinct places = All (λ place. place < length distinct) places

-- pairs to which others come, and whether there is room for one
pub record Growing : Type 0 where
  pub items : List Pair
  pub has_room : Bool

-- whether two vectors of these lengths and capacities have room, one of the distinct pairs and one of places; a place
-- takes 32 bits
abbrev pub has_room : ℕ → ℕ → ℕ → ℕ → Bool
has_room distinct most_distinct places most_places =
    nat_lt distinct most_distinct && (nat_lt distinct 4294967295 && nat_lt places most_places)
