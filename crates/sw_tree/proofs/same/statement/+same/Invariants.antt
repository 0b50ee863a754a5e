use Rattle.std.proofs.Common.{◌≡◌, take}
use Rattle.sw_tree.proofs.same.statement.+same.Given as goal

abbrev pub invariant-same_block-statements : goal.invariant-same_block-statements
invariant-same_block-statements l = take l.i l.xs ≡ take l.i l.ys

abbrev pub invariant-same_branches-branches : goal.invariant-same_branches-branches
invariant-same_branches-branches l = take l.i l.xs ≡ take l.i l.ys
