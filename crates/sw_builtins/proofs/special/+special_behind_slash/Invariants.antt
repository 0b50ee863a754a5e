use Rattle.std.proofs.Common.{length}
use Rattle.sw_builtins.proofs.special.+special_behind_slash.Given as goal

abbrev pub decreases-special_behind_slash : goal.decreases-special_behind_slash
decreases-special_behind_slash l = length l.text.now
