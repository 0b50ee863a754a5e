use Rattle.std.proofs.Common.{◌≡◌, drop}
use Rattle.sw_fn_map.specs.Changes.{innermost}
use Rattle.sw_fn_map.proofs.changes.innermost.Given as goal

abbrev pub invariant-keys : goal.invariant-keys
invariant-keys l = innermost l.inner (drop l.at l.keys) ≡ innermost l.pairs l.keys
