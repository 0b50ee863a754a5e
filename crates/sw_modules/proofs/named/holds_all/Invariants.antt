use Rattle.std.proofs.Common.{take}
use Rattle.std.specs.List.{All}
use Rattle.sw_modules.specs.Outside.{IsPublic}
use Rattle.sw_modules.proofs.named.holds_all.Given as goal

abbrev pub invariant-loop-place : goal.invariant-loop-place
invariant-loop-place l = All (IsPublic l.variables) (take l.place l.values)
