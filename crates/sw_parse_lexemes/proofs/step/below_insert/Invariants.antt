use Rattle.std.proofs.Common.{◌≡◌, length}
use Rattle.sw_parse_lexemes.specs.Steps.{below_insert}
use Rattle.sw_parse_lexemes.proofs.step.below_insert.Given as goal

abbrev pub invariant-items : goal.invariant-items
invariant-items l = below_insert (length l.frames) l.frames ≡ below_insert (length l.fn.frames) l.fn.frames

abbrev pub decreases-items : goal.decreases-items
decreases-items l = length l.frames
