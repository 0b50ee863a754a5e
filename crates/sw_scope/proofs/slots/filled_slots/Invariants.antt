use Rattle.std.proofs.Common.{◌≡◌, ◌++◌, drop}
use Rattle.sw_scope.specs.Bind.{slots_from}
use Rattle.sw_scope.proofs.slots.filled_slots.Given as goal

abbrev pub invariant-params : goal.invariant-params
invariant-params l = l.slots ++ slots_from l.at (drop l.at l.params) l.items l.named ≡ slots_from 0 l.params l.items l.named
