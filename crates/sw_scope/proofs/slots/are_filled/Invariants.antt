use Rattle.std.proofs.Common.{◌≡◌, drop}
use Rattle.sw_scope.specs.Bind.{are_filled}
use Rattle.sw_scope.proofs.slots.are_filled.Given as goal

abbrev pub invariant-params : goal.invariant-params
invariant-params l = are_filled 0 l.params l.count l.named ≡ are_filled l.at (drop l.at l.params) l.count l.named
