use Rattle.std.proofs.Common.{◌≡◌, take}
use Rattle.sw_tree.proofs.same.marks.same_names.Given as goal

abbrev pub invariant-names : goal.invariant-names
invariant-names l = take l.i l.xs ≡ take l.i l.ys
