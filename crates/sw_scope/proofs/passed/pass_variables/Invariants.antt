use Rattle.std.proofs.Common.{◌≡◌, ◌++◌, drop}
use Rattle.sw_scope.proofs.passed.pass_variables.Given as goal

abbrev pub invariant-named : goal.invariant-named
invariant-named l = l.all ++ drop l.at l.named ≡ l.initial.all ++ l.named
