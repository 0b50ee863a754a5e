use Rattle.std.proofs.Common.{◌≡◌, drop}
use Rattle.sw_scope.specs.Passed.{are_names}
use Rattle.sw_scope.proofs.passed.are_names.Given as goal

abbrev pub invariant-pairs : goal.invariant-pairs
invariant-pairs l = are_names l.pairs ≡ are_names (drop l.at l.pairs)
