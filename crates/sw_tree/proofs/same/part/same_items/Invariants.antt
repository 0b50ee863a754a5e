use Rattle.std.proofs.Common.{◌≡◌, take}
use Rattle.sw_tree.proofs.same.part.same_items.Given as goal

abbrev pub invariant-items : goal.invariant-items
invariant-items l = take l.i l.xs ≡ take l.i l.ys
