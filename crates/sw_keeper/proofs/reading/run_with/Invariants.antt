use Rattle.std.proofs.Common.{◌≢◌, take}
use Rattle.std.specs.List.{All}
use Rattle.sw_record.specs.Kept.{Kept}
use Rattle.sw_keeper.proofs.reading.run_with.Given as goal

abbrev pub invariant-loop-at : goal.invariant-loop-at
invariant-loop-at g l = All (λ (kept : Kept). kept.run.text ≢ l.text) (take l.at l.runs)
