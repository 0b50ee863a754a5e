use Rattle.std.proofs.Common.{take}
use Rattle.sw_wire.proofs.Spaces.{HasNoSpace}
use Rattle.sw_wire.proofs.words.cut_word.Given as goal

abbrev pub invariant-loop-i : goal.invariant-loop-i
invariant-loop-i l = HasNoSpace (take l.i l.text)
