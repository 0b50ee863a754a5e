use Rattle.std.proofs.Common.{◌≡◌, ◌↔◌, ℕ, ◌<◌, ◌≤◌, length}
use Rattle.sw_record.specs.Together.{IsMarked, HasAnswerAt}
use Rattle.sw_record.proofs.marks.narrow.Given as goal

abbrev pub invariant-loop-place : goal.invariant-loop-place
invariant-loop-place g l = record {
  long : length l.left ≡ 8;
  done : (place : ℕ) → place < l.place → IsMarked l.left place ↔ (IsMarked l.alive place × HasAnswerAt l.runs place l.at l.answer);
  ahead : (place : ℕ) → l.place ≤ place → IsMarked l.left place → ⊥;
}
