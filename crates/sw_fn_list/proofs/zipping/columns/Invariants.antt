use Rattle.std.proofs.Common.{◌≡◌, ◌++◌, map, drop}
use Rattle.sw_fn_list.specs.Items.{items_of}
use Rattle.sw_fn_list.proofs.zipping.columns.Given as goal

abbrev pub invariant-lists : goal.invariant-lists
invariant-lists l = l.all ++ map items_of (drop l.at l.lists) ≡ map items_of l.lists
