use Rattle.std.proofs.Common.{◌+◌, ◌*◌}
use Rattle.sw_eval.proofs.knot.+knot.Given as goal

abbrev pub decreases-value_at : goal.decreases-value_at
decreases-value_at g l = 2 * l.depth

abbrev pub decreases-enter_at : goal.decreases-enter_at
decreases-enter_at g l = 2 * l.depth

abbrev pub decreases-does_at : goal.decreases-does_at
decreases-does_at g l = 2 * l.depth

abbrev pub decreases-value_at-closure : goal.decreases-value_at-closure
decreases-value_at-closure g l = 2 * l.lower + 1

abbrev pub decreases-value_at-closure+2 : goal.decreases-value_at-closure+2
decreases-value_at-closure+2 g l = 2 * l.lower + 1

abbrev pub decreases-value_at-closure+3 : goal.decreases-value_at-closure+3
decreases-value_at-closure+3 g l = 2 * l.lower + 1

abbrev pub decreases-enter_at-closure : goal.decreases-enter_at-closure
decreases-enter_at-closure g l = 2 * l.lower + 1

abbrev pub decreases-enter_at-closure+2 : goal.decreases-enter_at-closure+2
decreases-enter_at-closure+2 g l = 2 * l.lower + 1

abbrev pub decreases-enter_at-closure+3 : goal.decreases-enter_at-closure+3
decreases-enter_at-closure+3 g l = 2 * l.lower + 1

abbrev pub decreases-does_at-closure : goal.decreases-does_at-closure
decreases-does_at-closure g l = 2 * l.lower + 1

abbrev pub decreases-does_at-closure+2 : goal.decreases-does_at-closure+2
decreases-does_at-closure+2 g l = 2 * l.lower + 1

abbrev pub decreases-does_at-closure+3 : goal.decreases-does_at-closure+3
decreases-does_at-closure+3 g l = 2 * l.lower + 1

abbrev pub decreases-set_at : goal.decreases-set_at
decreases-set_at g l = 2 * l.depth + 1
