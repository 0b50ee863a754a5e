use Rattle.std.proofs.Common.{length, ◌-◌}
use Rattle.sw_record.specs.Tails.{TellsUpTo}
use Rattle.sw_record.proofs.tail.Gathering.add_from.Given as goal

abbrev pub invariant-loop-at : goal.invariant-loop-at
invariant-loop-at l = TellsUpTo l.self.named.items l.self.alone l.seen l.from l.at

abbrev pub decreases-loop-at : goal.decreases-loop-at
decreases-loop-at l = length l.seen - l.at
