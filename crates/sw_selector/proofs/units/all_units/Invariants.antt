use Rattle.std.proofs.Common.{◌≡◌, drop, []}
use Rattle.sw_selector.specs.Writing.{all_units}
use Rattle.sw_selector.proofs.units.all_units.Given as goal

abbrev pub invariant-list : goal.invariant-list
invariant-list l = all_units l.out (drop l.complex-index l.list) ≡ all_units [] l.list
