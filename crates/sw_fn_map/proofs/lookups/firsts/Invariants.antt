use Rattle.std.proofs.Common.{◌≡◌, ◌++◌, map, drop}
use Rattle.sw_fn_map.specs.Lookups.{first}
use Rattle.sw_fn_map.proofs.lookups.firsts.Given as goal

abbrev pub invariant-pairs : goal.invariant-pairs
invariant-pairs l = l.all ++ map first (drop l.at l.pairs) ≡ map first l.pairs
