use Rattle.std.proofs.Common.{◌≡◌, take}
use Rattle.sw_tree.proofs.same.load.same_members.Given as goal

abbrev pub invariant-members : goal.invariant-members
invariant-members l = take l.i l.xs ≡ take l.i l.ys
