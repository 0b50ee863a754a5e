use Rattle.std.proofs.Common.{◌≤◌}
use Rattle.sw_record.proofs.tail.behind_loads.Given as goal

abbrev pub invariant-loop-at : goal.invariant-loop-at
invariant-loop-at l = l.behind ≤ l.at
