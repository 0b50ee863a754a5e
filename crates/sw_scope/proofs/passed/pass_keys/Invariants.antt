use Rattle.std.proofs.Common.{◌≡◌, ◌++◌, drop}
use Rattle.sw_scope.specs.Passed.{named_of}
use Rattle.sw_scope.proofs.passed.pass_keys.Given as goal

abbrev pub invariant-pairs : goal.invariant-pairs
invariant-pairs l = l.all ++ named_of (drop l.at l.pairs) ≡ l.initial.all ++ named_of l.pairs
