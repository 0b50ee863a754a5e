use Rattle.std.proofs.Common.{◌≡◌, take}
use Rattle.sw_tree.proofs.same.expr.+same.Given as goal

abbrev pub invariant-same_pieces-pieces : goal.invariant-same_pieces-pieces
invariant-same_pieces-pieces l = take l.i l.xs ≡ take l.i l.ys

abbrev pub invariant-same_exprs-items : goal.invariant-same_exprs-items
invariant-same_exprs-items l = take l.i l.xs ≡ take l.i l.ys

abbrev pub invariant-same_arguments-arguments : goal.invariant-same_arguments-arguments
invariant-same_arguments-arguments l = take l.i l.xs ≡ take l.i l.ys

abbrev pub invariant-same_links-links : goal.invariant-same_links-links
invariant-same_links-links l = take l.i l.xs ≡ take l.i l.ys

abbrev pub invariant-same_pairs-pairs : goal.invariant-same_pairs-pairs
invariant-same_pairs-pairs l = take l.i l.xs ≡ take l.i l.ys
