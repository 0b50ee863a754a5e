use Rattle.std.proofs.Common.{◌≡◌, drop}
use Rattle.sw_selector.specs.Nesting.{ends_from, ends_of}
use Rattle.sw_selector.proofs.parents.ends_of.Given as goal

abbrev pub invariant-list : goal.invariant-list
invariant-list l = ends_from l.ends (drop l.complex-index l.list) ≡ ends_of l.list
