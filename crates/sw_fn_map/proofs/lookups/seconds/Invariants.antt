use Rattle.std.proofs.Common.{◌≡◌, ◌++◌, map, drop}
use Rattle.sw_values.specs.Maps.{second}
use Rattle.sw_fn_map.proofs.lookups.seconds.Given as goal

abbrev pub invariant-pairs : goal.invariant-pairs
invariant-pairs l = l.all ++ map second (drop l.at l.pairs) ≡ map second l.pairs
