use Rattle.std.proofs.Common.{ℕ, ◌<◌}
use Rattle.sw_record.specs.Together.{IsMarked}
use Rattle.sw_record.proofs.marks.first_marked.Given as goal

abbrev pub invariant-loop-place : goal.invariant-loop-place
invariant-loop-place l = (place : ℕ) → place < l.place → IsMarked l.marks place → ⊥
