use Rattle.std.proofs.Common.{◌≡◌, ◌+◌, ℕ}
use Rattle.sw_io.specs.Causes.{NoFault}
use Rattle.sw_cmd_protocol.specs.Turns.{place, standing}
use Rattle.sw_cmd_protocol.proofs.Serving.{GoingHeard}
use Rattle.sw_cmd_protocol.proofs.service.Service.answer_all.Given as goal

abbrev pub invariant-requests : goal.invariant-requests
invariant-requests g l = record {
  going : (n : ℕ) × (n + l.counter ≡ l.most) × GoingHeard g.P.Protocol.rules g.T.Audience.hears l.most
      (standing (g.P.Protocol.held l.initial.self.protocol l.initial.outside) (g.P.Protocol.ran l.initial.engine)) (g.T.Audience.state l.initial.output.audience) n
      (standing (g.P.Protocol.held l.self.protocol l.outside) (g.P.Protocol.ran l.engine)) (g.T.Audience.state l.output.audience)
      (place l.initial.self.lines.reader (g.S.Source.left l.initial.source) (g.K.Sink.written l.initial.output.sink))
      (place l.self.lines.reader (g.S.Source.left l.source) (g.K.Sink.written l.output.sink));
  source_fine : NoFault (g.S.Source.faults l.initial.source) (g.S.Source.faults l.source);
  sink_fine : NoFault (g.K.Sink.faults l.initial.output.sink) (g.K.Sink.faults l.output.sink);
  outside_fine : NoFault (g.P.Protocol.faults l.initial.outside) (g.P.Protocol.faults l.outside);
}
