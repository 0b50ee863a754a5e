use Rattle.std.proofs.Common.{◌≡◌, subst}
use Rattle.sw_modules.specs.Settings.{hostless}
use Rattle.sw_step.specs.Joint.{Joint}
use Rattle.sw_cmd_protocol.specs.Served as protocol
use Rattle.sw_cmd_protocol.specs.Script.{script}
use Rattle.sw_cmd_protocol.specs.Heard.{ServedAndHeard}
use Rattle.sw_cmd_protocol.specs.Turns.{standing}
use Rattle.sw_cmd_protocol.proofs.Serving.{no_lines}
use Rattle.sw_cmd_protocol.proofs.Unheard.{unheard}
use Rattle.sw_cmd_steps.specs.Script.{grammar}
use Rattle.sw_cmd_steps.specs.Transcript.{steps}
use Rattle.sw_cmd_steps.specs.Served.{nothing_held}
use Rattle.sw_cmd_steps.proofs.Following.{tells_nothing, not_outside}
use Rattle.sw_cmd_steps.proofs.service.serve_steps_within.Goals as goal

pub returns-in-Err-clause-served : goal.returns-in-Err-clause-served
returns-in-Err-clause-served g c =
    let none = no_lines (steps (hostless g.R.Reader.reads g.E.Engine.body)) c.args.most (standing nothing_held (g.E.Engine.ran c.args.engine.now))
    g.T.Audience.hears (g.T.Audience.state c.args.output.now.audience) (g.S.Source.left c.args.source.now) (g.K.Sink.written c.args.output.now.sink) in
    record { holds = nothing_held; served = none.served }

pub returns-in-Ok-clause-served : goal.returns-in-Ok-clause-served
returns-in-Ok-clause-served g c =
    let setting = hostless g.R.Reader.reads g.E.Engine.body in
    let all = subst (λ (joint : Joint). ServedAndHeard (steps setting) g.T.Audience.hears c.args.most c.answer_all.result
    (protocol.surroundings (g.S.Source.left c.args.source.now) (g.K.Sink.written c.args.output.now.sink) joint (g.E.Engine.ran c.args.engine.now))
    (protocol.surroundings (g.S.Source.left c.answer_all.new.source) (g.K.Sink.written c.answer_all.new.output.sink) c.answer_all.new.self.protocol.steps (g.E.Engine.ran c.answer_all.new.engine))
    (g.T.Audience.state c.args.output.now.audience) (g.T.Audience.state c.answer_all.new.output.audience))
    c.new-protocol.ensures c.answer_all.ensures.served in
    record { holds = c.answer_all.new.self.protocol.steps; served = all.served }

pub returns-in-Ok-clause-unheard : goal.returns-in-Ok-clause-unheard
returns-in-Ok-clause-unheard g c =
    let setting = hostless g.R.Reader.reads g.E.Engine.body in
    let all = subst (λ (joint : Joint). ServedAndHeard (steps setting) g.T.Audience.hears c.args.most c.answer_all.result
    (protocol.surroundings (g.S.Source.left c.args.source.now) (g.K.Sink.written c.args.output.now.sink) joint (g.E.Engine.ran c.args.engine.now))
    (protocol.surroundings (g.S.Source.left c.answer_all.new.source) (g.K.Sink.written c.answer_all.new.output.sink) c.answer_all.new.self.protocol.steps (g.E.Engine.ran c.answer_all.new.engine))
    (g.T.Audience.state c.args.output.now.audience) (g.T.Audience.state c.answer_all.new.output.audience))
    c.new-protocol.ensures c.answer_all.ensures.served in
    unheard (steps setting) (tells_nothing setting) g.T.Audience.hears (g.T.Audience.state c.args.output.now.audience) (g.T.Audience.state c.answer_all.new.output.audience) c.answer_all.result nothing_held
    (script grammar c.args.most all.served.taken).events all.served.marks all.served.out all.heard

pub returns-in-Ok-clause-no_outside_fault : goal.returns-in-Ok-clause-no_outside_fault
returns-in-Ok-clause-no_outside_fault g c =
    let setting = hostless g.R.Reader.reads g.E.Engine.body in
    not_outside setting c.args.most c.answer_all.result _ _ c.answer_all.ensures.served.served
