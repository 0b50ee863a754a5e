use Rattle.std.proofs.Common.{Err, refl, subst, ap, ◌∙◌, arith}
use Rattle.sw_io.proofs.Causes.{fine_ok, fine_else}
use Rattle.sw_cmd_protocol.specs.declared.stop.Stop.{Stop}
use Rattle.sw_cmd_protocol.specs.declared.stop.Stop.TheVariants.{SourceFailed, SinkFailed, OutsideFailed}
use Rattle.sw_cmd_protocol.specs.Heard.{told_of}
use Rattle.sw_cmd_protocol.specs.Turns.{place, standing, LastEnds}
use Rattle.sw_cmd_protocol.proofs.Serving.{start_heard, going_on_at, turn_ends_at, last_ends_at}
use Rattle.sw_cmd_protocol.proofs.service.Service.answer_all.Goals as goal

pub requests-init : goal.requests-init
requests-init g c = record {
  going = (c.args.most, omega arith, start_heard g.P.Protocol.rules c.args.most _ g.T.Audience.hears (g.T.Audience.state c.args.output.now.audience) _);
  source_fine = refl;
  sink_fine = refl;
  outside_fine = refl;
}

pub returns-in-Err-clause-served : goal.returns-in-Err-clause-served
returns-in-Err-clause-served g c =
    let i = c.requests.invariant.going in
    turn_ends_at g.P.Protocol.rules c.args.most
    (standing (g.P.Protocol.held c.args.self.now.protocol c.args.outside.now) (g.P.Protocol.ran c.args.engine.now)) g.T.Audience.hears (g.T.Audience.state c.args.output.now.audience) (g.T.Audience.state c.requests.output.audience) i.0 c.requests.counter
    (standing (g.P.Protocol.held c.requests.self.protocol c.requests.outside) (g.P.Protocol.ran c.requests.engine))
    (standing (g.P.Protocol.held c.answer_next.new.self.protocol c.answer_next.new.outside) (g.P.Protocol.ran c.answer_next.new.engine))
    (place c.args.self.now.lines.reader (g.S.Source.left c.args.source.now) (g.K.Sink.written c.args.output.now.sink))
    (place c.requests.self.lines.reader (g.S.Source.left c.requests.source) (g.K.Sink.written c.requests.output.sink))
    (place c.answer_next.new.self.lines.reader (g.S.Source.left c.answer_next.new.source) (g.K.Sink.written c.answer_next.new.sink)) c.in-Err.stop
    i.1 c.requests-test.true c.requires i.2 c.in-Err.ensures.err

pub requests-preserved : goal.requests-preserved
requests-preserved g c =
    let i = c.requests.invariant in
    let e = c.in-Ok.ensures in
    record {
      going = going_on_at g.P.Protocol.rules c.args.most
          (standing (g.P.Protocol.held c.args.self.now.protocol c.args.outside.now) (g.P.Protocol.ran c.args.engine.now)) g.T.Audience.hears (g.T.Audience.state c.args.output.now.audience) (g.T.Audience.state c.requests.output.audience) (g.T.Audience.state c.tell_some.new.audience) i.going.0 c.requests.counter
          (standing (g.P.Protocol.held c.requests.self.protocol c.requests.outside) (g.P.Protocol.ran c.requests.engine))
          (standing (g.P.Protocol.held c.answer_next.new.self.protocol c.answer_next.new.outside) (g.P.Protocol.ran c.answer_next.new.engine))
          (place c.args.self.now.lines.reader (g.S.Source.left c.args.source.now) (g.K.Sink.written c.args.output.now.sink))
          (place c.requests.self.lines.reader (g.S.Source.left c.requests.source) (g.K.Sink.written c.requests.output.sink))
          (place c.answer_next.new.self.lines.reader (g.S.Source.left c.answer_next.new.source) (g.K.Sink.written c.answer_next.new.sink))
          (told_of c.in-Ok.reply) i.going.1 c.requests-test.true i.going.2 e.ok c.tell_some.ensures;
      source_fine = fine_ok SourceFailed _ _ _ e.source_cause ∙ i.source_fine;
      sink_fine = fine_ok SinkFailed _ _ _ e.sink_cause ∙ i.sink_fine;
      outside_fine = fine_ok OutsideFailed _ _ _ e.outside_cause ∙ i.outside_fine;
    }

pub returns-in-Err-clause-source_fault : goal.returns-in-Err-clause-source_fault
returns-in-Err-clause-source_fault g c = λ e. omega (arith, c.requests.invariant.source_fine, c.in-Err.ensures.source_cause.rose (ap Err e))

pub returns-in-Err-clause-sink_fault : goal.returns-in-Err-clause-sink_fault
returns-in-Err-clause-sink_fault g c = λ e. omega (arith, c.requests.invariant.sink_fine, c.in-Err.ensures.sink_cause.rose (ap Err e))

pub returns-in-Err-clause-outside_fault : goal.returns-in-Err-clause-outside_fault
returns-in-Err-clause-outside_fault g c = λ e. omega (arith, c.requests.invariant.outside_fine, c.in-Err.ensures.outside_cause.rose (ap Err e))

pub returns-in-Err-clause-no_source_fault : goal.returns-in-Err-clause-no_source_fault
returns-in-Err-clause-no_source_fault g c = λ n. fine_else SourceFailed _ _ c.in-Err.stop n c.in-Err.ensures.source_cause ∙ c.requests.invariant.source_fine

pub returns-in-Err-clause-no_sink_fault : goal.returns-in-Err-clause-no_sink_fault
returns-in-Err-clause-no_sink_fault g c = λ n. fine_else SinkFailed _ _ c.in-Err.stop n c.in-Err.ensures.sink_cause ∙ c.requests.invariant.sink_fine

pub returns-in-Err-clause-no_outside_fault : goal.returns-in-Err-clause-no_outside_fault
returns-in-Err-clause-no_outside_fault g c = λ n. fine_else OutsideFailed _ _ c.in-Err.stop n c.in-Err.ensures.outside_cause ∙ c.requests.invariant.outside_fine

pub returns-clause-served : goal.returns-clause-served
returns-clause-served g c =
    let i = c.requests.invariant.going in
    let w = g.K.Sink.written c.requests.output.sink in
    rw c.last.ensures.protocol (last_ends_at g.P.Protocol.rules c.args.most
    (standing (g.P.Protocol.held c.args.self.now.protocol c.args.outside.now) (g.P.Protocol.ran c.args.engine.now)) g.T.Audience.hears (g.T.Audience.state c.args.output.now.audience) (g.T.Audience.state c.requests.output.audience) i.0 c.requests.counter
    (standing (g.P.Protocol.held c.requests.self.protocol c.requests.outside) (g.P.Protocol.ran c.requests.engine))
    (place c.args.self.now.lines.reader (g.S.Source.left c.args.source.now) (g.K.Sink.written c.args.output.now.sink))
    (place c.requests.self.lines.reader (g.S.Source.left c.requests.source) w)
    (place c.last.new.self.lines.reader (g.S.Source.left c.last.new.source) w) c.last.result
    i.1 c.requests-test.false c.requires i.2 (c.last.ensures.ends w))

-- the last line never ends with a fault of the sink, nor of what is asked beside the source
pub returns-clause-sink_fault : goal.returns-clause-sink_fault
returns-clause-sink_fault g c =
    λ e. let w = g.K.Sink.written c.requests.output.sink in
    absurd (subst (λ (s : Stop). LastEnds g.P.Protocol.rules.grammar s (place c.requests.self.lines.reader (g.S.Source.left c.requests.source) w) (place c.last.new.self.lines.reader (g.S.Source.left c.last.new.source) w)) e (c.last.ensures.ends w))

pub returns-clause-outside_fault : goal.returns-clause-outside_fault
returns-clause-outside_fault g c =
    λ e. let w = g.K.Sink.written c.requests.output.sink in
    absurd (subst (λ (s : Stop). LastEnds g.P.Protocol.rules.grammar s (place c.requests.self.lines.reader (g.S.Source.left c.requests.source) w) (place c.last.new.self.lines.reader (g.S.Source.left c.last.new.source) w)) e (c.last.ensures.ends w))

pub returns-clause-source_fault : goal.returns-clause-source_fault
returns-clause-source_fault g c = λ e. omega (arith, c.requests.invariant.source_fine, c.last.ensures.fault e)

pub returns-clause-no_source_fault : goal.returns-clause-no_source_fault
returns-clause-no_source_fault g c = λ n. c.last.ensures.no_fault n ∙ c.requests.invariant.source_fine

pub returns-clause-no_sink_fault : goal.returns-clause-no_sink_fault
returns-clause-no_sink_fault g c = λ _. c.requests.invariant.sink_fine

pub returns-clause-no_outside_fault : goal.returns-clause-no_outside_fault
returns-clause-no_outside_fault g c = λ _. c.requests.invariant.outside_fine
