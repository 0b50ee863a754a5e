use Rattle.std.proofs.Common.{◌+◌, ◌*◌}
use Rattle.sw_expr_parse.proofs.read.+fn-read_space-space_by+read_space.Given as goal

abbrev pub decreases-space_by : goal.decreases-space_by
decreases-space_by l = 2 * l.lower + 1

abbrev pub decreases-read_space : goal.decreases-read_space
decreases-read_space l = 2 * l.levels
