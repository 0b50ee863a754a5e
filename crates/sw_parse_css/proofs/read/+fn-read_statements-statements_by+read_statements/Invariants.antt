use Rattle.std.proofs.Common.{◌+◌, ◌*◌}
use Rattle.sw_parse_css.proofs.read.+fn-read_statements-statements_by+read_statements.Given as goal

abbrev pub decreases-statements_by : goal.decreases-statements_by
decreases-statements_by l = 2 * l.lower + 1

abbrev pub decreases-read_statements : goal.decreases-read_statements
decreases-read_statements l = 2 * l.levels
