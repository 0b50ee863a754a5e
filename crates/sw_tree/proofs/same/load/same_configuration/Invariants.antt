use Rattle.std.proofs.Common.{◌≡◌, take}
use Rattle.sw_tree.proofs.same.load.same_configuration.Given as goal

abbrev pub invariant-variables : goal.invariant-variables
invariant-variables l = take l.i l.xs ≡ take l.i l.ys
