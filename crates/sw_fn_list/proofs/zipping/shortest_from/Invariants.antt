use Rattle.std.proofs.Common.{◌≡◌, drop}
use Rattle.sw_fn_list.specs.Joining.{shortest_from}
use Rattle.sw_fn_list.proofs.zipping.shortest_from.Given as goal

abbrev pub invariant-columns : goal.invariant-columns
invariant-columns l = shortest_from l.least (drop l.at l.columns) ≡ shortest_from l.length l.columns
