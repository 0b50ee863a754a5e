use Rattle.sw_record.specs.Replay.{AskedAgain}
use Rattle.sw_record.proofs.again.replay.Given as goal

abbrev pub invariant-loop-at : goal.invariant-loop-at
invariant-loop-at g l = AskedAgain g.W.World.gives l.seen l.from l.at l.fn.world l.world
