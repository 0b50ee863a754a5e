use Rattle.std.proofs.Common.{◌≡◌, take}
use Rattle.sw_record.specs.Tails.{AreGiven}
use Rattle.sw_record.proofs.again.are_confirmed.Given as goal

abbrev pub invariant-loop-at : goal.invariant-loop-at
invariant-loop-at g l = (l.world ≡ l.fn.world) × AreGiven g.W.World.gives l.fn.world (take l.at l.named)
