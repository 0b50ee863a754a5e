use Rattle.std.proofs.Common.{length}
use Rattle.sw_builtins.proofs.written.+further.Given as goal

abbrev pub decreases-further : goal.decreases-further
decreases-further l = length l.values.now
