use Rattle.std.proofs.Common.{◌+◌, ◌*◌}
use Rattle.sw_rows_value_calls.proofs.reader.Reader.+reading.Given as goal

abbrev pub decreases-value : goal.decreases-value
decreases-value l = 3 * l.depth

abbrev pub decreases-items : goal.decreases-items
decreases-items l = 3 * l.depth + 1

abbrev pub decreases-arguments : goal.decreases-arguments
decreases-arguments l = 3 * l.depth + 1

abbrev pub decreases-list : goal.decreases-list
decreases-list l = 3 * l.depth + 2
