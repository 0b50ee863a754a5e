use Rattle.std.proofs.Common.{◌-◌}
use Rattle.sw_record.specs.Together.{WentOn}
use Rattle.sw_record.proofs.Together.{total}
use Rattle.sw_record.proofs.replay.replay_all.Given as goal

abbrev pub invariant-questions : goal.invariant-questions
invariant-questions g l = WentOn g.W.World.gives l.runs l.fn.alive l.fn.from l.left l.at l.fn.world l.world

abbrev pub decreases-questions : goal.decreases-questions
decreases-questions g l = total l.runs - l.at
