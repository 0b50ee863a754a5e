use Rattle.std.proofs.Common.{◌≡◌, ◌++◌, drop}
use Rattle.sw_scope.specs.Bind.{named_left}
use Rattle.sw_scope.proofs.binding.named_left.Given as goal

abbrev pub invariant-named : goal.invariant-named
invariant-named l = l.left ++ named_left l.names.keys (drop l.at l.named) ≡ named_left l.names.keys l.named
