use Rattle.std.proofs.Common.{length}
use Rattle.sw_builtins.proofs.search.+order.Given as goal

abbrev pub decreases-order : goal.decreases-order
decreases-order l = length l.name.now
