use Rattle.std.proofs.Common.{◌≡◌, ◌++◌, drop}
use Rattle.sw_fn_list.proofs.items.push_shares.Given as goal

abbrev pub invariant-items : goal.invariant-items
invariant-items l = l.all ++ drop l.at l.items ≡ l.initial.all ++ l.items
