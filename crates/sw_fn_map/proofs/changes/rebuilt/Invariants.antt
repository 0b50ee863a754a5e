use Rattle.std.proofs.Common.{◌≡◌, length}
use Rattle.sw_fn_map.specs.Changes.{rebuilt}
use Rattle.sw_fn_map.proofs.changes.rebuilt.Given as goal

abbrev pub invariant-steps : goal.invariant-steps
invariant-steps l = rebuilt l.steps l.value ≡ rebuilt l.initial.steps l.initial.value

abbrev pub decreases-steps : goal.decreases-steps
decreases-steps l = length l.steps
