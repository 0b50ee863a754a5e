use Rattle.std.proofs.Common.{◌≡◌, take}
use Rattle.sw_tree.proofs.same.marks.same_signs.Given as goal

abbrev pub invariant-signs : goal.invariant-signs
invariant-signs l = take l.i l.xs ≡ take l.i l.ys
