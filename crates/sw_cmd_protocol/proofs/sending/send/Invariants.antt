use Rattle.std.proofs.Common.{◌≡◌, ◌++◌, List, ℕ, length}
use Rattle.std.specs.Io.KnownBytes.{Appends}
use Rattle.sw_io.specs.Causes.{NoFault}
use Rattle.sw_cmd_protocol.proofs.sending.send.Given as goal

abbrev pub invariant-loop-rest : goal.invariant-loop-rest
invariant-loop-rest g l = record {
  sent : (sent : List ℕ) × (l.initial.rest ≡ sent ++ l.rest) × Appends (g.K.Sink.written l.initial.sink) (g.K.Sink.written l.sink) sent;
  fine : NoFault (g.K.Sink.faults l.initial.sink) (g.K.Sink.faults l.sink);
}

abbrev pub decreases-loop-rest : goal.decreases-loop-rest
decreases-loop-rest g l = length l.rest
