use Rattle.std.proofs.Common.{◌≡◌, [], drop}
use Rattle.sw_fn_map.specs.Changes.{canons_after}
use Rattle.sw_fn_map.proofs.changes.canons_of.Given as goal

abbrev pub invariant-keys : goal.invariant-keys
invariant-keys l = canons_after l.canons.keys (drop l.at l.keys) ≡ canons_after [] l.keys
