use Rattle.std.proofs.Common.{◌≤◌, ◌-◌, length}
use Rattle.sw_io.specs.Reads.{Reads}
use Rattle.sw_io.specs.Causes.{NoFault}
use Rattle.sw_io.proofs.reader.Reader.take.Given as goal

abbrev pub invariant-loop-self : goal.invariant-loop-self
invariant-loop-self g l = record {
  read : Reads l.initial.self (g.S.Source.left l.initial.source) l.out.items l.self (g.S.Source.left l.source);
  most : length l.out.items ≤ l.count;
  fine : NoFault (g.S.Source.faults l.initial.source) (g.S.Source.faults l.source);
}

abbrev pub decreases-loop-self : goal.decreases-loop-self
decreases-loop-self g l = l.count - length l.out.items
