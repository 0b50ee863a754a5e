use Rattle.std.proofs.Common.{◌≡◌, ◌++◌, drop, not}
use Rattle.std.specs.Prelude.{filter}
use Rattle.sw_fn_map.specs.Changes.{is_among}
use Rattle.sw_fn_map.proofs.changes.without_canons.Given as goal

abbrev pub invariant-pairs : goal.invariant-pairs
invariant-pairs l = l.all ++ filter (λ p. not (is_among l.canons.keys p)) (drop l.at l.pairs) ≡ filter (λ p. not (is_among l.canons.keys p)) l.pairs
