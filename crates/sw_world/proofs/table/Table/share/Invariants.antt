use Rattle.std.proofs.Common.{◌≡◌, take}
use Rattle.sw_world.proofs.table.Table.share.Given as goal

abbrev pub invariant-loop-place : goal.invariant-loop-place
invariant-loop-place g l = l.table ≡ take l.place l.self
