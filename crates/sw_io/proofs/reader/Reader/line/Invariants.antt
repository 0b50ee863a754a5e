use Rattle.std.proofs.Common.{◌≡◌, length}
use Rattle.sw_io.specs.Reads.{Reads}
use Rattle.sw_io.specs.Causes.{NoFault}
use Rattle.sw_io.proofs.Lines.{IsUnbroken}
use Rattle.sw_io.proofs.reader.Reader.line.Given as goal

abbrev pub invariant-loop : goal.invariant-loop
invariant-loop g l = record {
  read : Reads l.initial.self (g.S.Source.left l.initial.source) l.line.items l.self (g.S.Source.left l.source);
  unbroken : IsUnbroken l.line.items;
  count : length l.line.items ≡ l.counter;
  fine : NoFault (g.S.Source.faults l.initial.source) (g.S.Source.faults l.source);
}
