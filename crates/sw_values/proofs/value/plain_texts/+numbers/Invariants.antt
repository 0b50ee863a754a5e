use Rattle.std.proofs.Common.{◌+◌, ◌*◌}
use Rattle.sw_values.proofs.value.plain_texts.+numbers.Given as goal

abbrev pub decreases-write_number : goal.decreases-write_number
decreases-write_number l = 2 * l.levels

abbrev pub decreases-write_sides : goal.decreases-write_sides
decreases-write_sides l = 2 * l.levels + 1
