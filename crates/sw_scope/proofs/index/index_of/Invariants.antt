use Rattle.std.proofs.Common.{take}
use Rattle.sw_scope.specs.Index.{IsIndex}
use Rattle.sw_scope.proofs.index.index_of.Given as goal

abbrev pub invariant-vars : goal.invariant-vars
invariant-vars l = IsIndex l.index (take l.at l.vars)
