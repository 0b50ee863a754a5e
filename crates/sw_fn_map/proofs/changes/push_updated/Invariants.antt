use Rattle.std.proofs.Common.{◌≡◌, ◌++◌, map, drop}
use Rattle.sw_fn_map.specs.Changes.{updated}
use Rattle.sw_fn_map.proofs.changes.push_updated.Given as goal

abbrev pub invariant-pairs : goal.invariant-pairs
invariant-pairs l = l.all ++ map (updated l.other) (drop l.at l.pairs) ≡ l.initial.all ++ map (updated l.other) l.pairs
