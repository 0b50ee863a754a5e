use Rattle.std.proofs.Common.{◌≡◌, ◌++◌, drop}
use Rattle.std.specs.Prelude.{filter}
use Rattle.sw_fn_map.specs.Changes.{is_new}
use Rattle.sw_fn_map.proofs.changes.push_new.Given as goal

abbrev pub invariant-pairs : goal.invariant-pairs
invariant-pairs l = l.all ++ filter (is_new l.pairs) (drop l.at l.other) ≡ l.initial.all ++ filter (is_new l.pairs) l.other
