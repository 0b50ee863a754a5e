use Rattle.std.proofs.Common.{◌≡◌, drop}
use Rattle.sw_fn_map.specs.Lookups.{found}
use Rattle.sw_fn_map.proofs.lookups.found.Given as goal

abbrev pub invariant-keys : goal.invariant-keys
invariant-keys l = found l.inner l.next (drop l.at l.keys) ≡ found l.fn.pairs l.key l.keys
