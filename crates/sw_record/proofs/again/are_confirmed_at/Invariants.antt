use Rattle.std.proofs.Common.{◌≡◌, take}
use Rattle.sw_record.specs.Tails.{AreGivenAt}
use Rattle.sw_record.proofs.again.are_confirmed_at.Given as goal

abbrev pub invariant-loop-at : goal.invariant-loop-at
invariant-loop-at g l = (l.world ≡ l.fn.world) × AreGivenAt g.W.World.gives l.fn.world l.seen (take l.at l.places)
