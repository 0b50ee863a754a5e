use Rattle.std.proofs.Common.{◌≡◌, ◌+◌, ℕ, List, length}
use Rattle.sw_io.specs.Reads.{Reads}
use Rattle.sw_io.specs.Causes.{NoFault}
use Rattle.sw_io.proofs.reader.Reader.skip.Given as goal

abbrev pub invariant-loop-left : goal.invariant-loop-left
invariant-loop-left g l = record {
  used : (used : List ℕ) × Reads l.initial.self (g.S.Source.left l.initial.source) used l.self (g.S.Source.left l.source)
      × (length used + l.left ≡ l.initial.left);
  fine : NoFault (g.S.Source.faults l.initial.source) (g.S.Source.faults l.source);
}

abbrev pub decreases-loop-left : goal.decreases-loop-left
decreases-loop-left g l = l.left
