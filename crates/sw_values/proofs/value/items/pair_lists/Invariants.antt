use Rattle.std.proofs.Common.{◌≡◌, ◌++◌, map, drop}
use Rattle.sw_values.specs.Items.{pair_list}
use Rattle.sw_values.proofs.value.items.pair_lists.Given as goal

abbrev pub invariant-pairs : goal.invariant-pairs
invariant-pairs l = l.items ++ map pair_list (drop l.at l.pairs) ≡ map pair_list l.pairs
