use Rattle.std.proofs.Common.{◌≡◌, ◌++◌, drop}
use Rattle.sw_selector.proofs.nesting.shared.Given as goal

abbrev pub invariant-list : goal.invariant-list
invariant-list l = l.out ++ drop l.complex-index l.list ≡ l.list
