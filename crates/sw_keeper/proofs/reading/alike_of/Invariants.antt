use Rattle.std.proofs.Common.{◌≡◌, ◌↔◌, ℕ, ◌<◌, ◌≤◌, length}
use Rattle.sw_record.specs.Together.{IsMarked}
use Rattle.sw_keeper.specs.Steps.{IsAlikeAt}
use Rattle.sw_keeper.proofs.reading.alike_of.Given as goal

abbrev pub invariant-loop-place : goal.invariant-loop-place
invariant-loop-place g l = record {
  long : length l.marks ≡ 8;
  done : (place : ℕ) → place < l.place → IsMarked l.marks place ↔ IsAlikeAt l.runs place l.opening.text l.opening.config;
  ahead : (place : ℕ) → l.place ≤ place → IsMarked l.marks place → ⊥;
}
