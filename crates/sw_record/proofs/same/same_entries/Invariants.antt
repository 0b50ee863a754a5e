use Rattle.std.proofs.Common.{◌≡◌, take}
use Rattle.sw_record.proofs.same.same_entries.Given as goal

abbrev pub invariant-loop-i : goal.invariant-loop-i
invariant-loop-i l = take l.i l.a ≡ take l.i l.b
