use Rattle.std.proofs.Common.{◌≡◌, drop}
use Rattle.sw_fn_map.specs.Deep.{are_maps}
use Rattle.sw_fn_map.proofs.deep.are_maps.Given as goal

abbrev pub invariant-keys : goal.invariant-keys
invariant-keys l = are_maps l.inner (drop l.at l.keys) ≡ are_maps l.pairs l.keys
