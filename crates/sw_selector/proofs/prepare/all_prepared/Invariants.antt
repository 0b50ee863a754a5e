use Rattle.std.proofs.Common.{◌≡◌, ◌++◌, drop, map}
use Rattle.sw_selector.specs.Nesting.{prepared}
use Rattle.sw_selector.proofs.prepare.all_prepared.Given as goal

abbrev pub invariant-list : goal.invariant-list
invariant-list l = l.out ++ map (prepared l.parents) (drop l.complex-index l.list) ≡ map (prepared l.parents) l.list
