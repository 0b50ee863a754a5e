use Rattle.std.proofs.Common.{◌≤◌, ◌-◌, length}
use Rattle.sw_io.specs.Causes.{NoFault}
use Rattle.sw_io.specs.Reads.{Reads}
use Rattle.sw_io.proofs.reader.Reader.rest.Given as goal

abbrev pub invariant-loop-byte : goal.invariant-loop-byte
invariant-loop-byte g l = record {
  read : Reads l.initial.self (g.S.Source.left l.initial.source) l.out.items l.self (g.S.Source.left l.source);
  count : length l.out.items ≤ l.most;
  fine : NoFault (g.S.Source.faults l.initial.source) (g.S.Source.faults l.source);
}

abbrev pub decreases-loop-byte : goal.decreases-loop-byte
decreases-loop-byte g l = l.most - length l.out.items
