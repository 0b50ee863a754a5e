use Rattle.std.proofs.Common.{◌≡◌, ◌++◌, map, drop}
use Rattle.sw_fn_list.specs.Items.{pair_list}
use Rattle.sw_fn_list.proofs.items.push_pairs.Given as goal

abbrev pub invariant-pairs : goal.invariant-pairs
invariant-pairs l = l.all ++ map pair_list (drop l.at l.pairs) ≡ l.initial.all ++ map pair_list l.pairs
