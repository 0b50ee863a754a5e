use Rattle.std.proofs.Common.{◌≡◌, take}
use Rattle.sw_world.proofs.pairs.first_places.Given as goal

abbrev pub invariant-loop-at : goal.invariant-loop-at
invariant-loop-at l = l.few.items ≡ take l.at l.fn.places
