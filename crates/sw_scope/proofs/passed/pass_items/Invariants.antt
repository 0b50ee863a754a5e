use Rattle.std.proofs.Common.{◌≡◌, ◌++◌, drop}
use Rattle.sw_scope.proofs.passed.pass_items.Given as goal

abbrev pub invariant-items : goal.invariant-items
invariant-items l = l.all ++ drop l.at l.items ≡ l.initial.all ++ l.items
