use Rattle.std.proofs.Common.{refl, subst}
use Rattle.sw_keeper.specs.Keeping.{Keeping}
use Rattle.sw_cmd_protocol.specs.Served as protocol
use Rattle.sw_cmd_protocol.specs.Heard.{ServedAndHeard}
use Rattle.sw_cmd_protocol.specs.Turns.{standing}
use Rattle.sw_cmd_protocol.proofs.Serving.{no_lines}
use Rattle.sw_modules.specs.Fresh.{setting_of}
use Rattle.sw_parse_file.specs.Files.{sheet_at}
use Rattle.sw_cmd_session.specs.Transcript.{holding, session}
use Rattle.sw_cmd_session.specs.Served.{nothing_held}
use Rattle.sw_cmd_session.proofs.service.serve_within.Goals as goal

pub returns-in-Err-clause-served : goal.returns-in-Err-clause-served
returns-in-Err-clause-served g c =
    let hosts = g.H.Hosts.state c.args.hosts.now in
    let none = no_lines (session (setting_of g.H.Hosts.answer g.H.Hosts.after sheet_at g.E.Engine.body)) c.args.most (standing (nothing_held hosts) (g.E.Engine.ran c.args.engine.now))
    g.T.Audience.hears (g.T.Audience.state c.args.output.now.audience) (g.S.Source.left c.args.source.now) (g.K.Sink.written c.args.output.now.sink) in
    record { served = record { holds = nothing_held hosts; hosts = refl; served = none.served }; heard = none.heard }

pub returns-in-Ok-clause-served : goal.returns-in-Ok-clause-served
returns-in-Ok-clause-served g c =
    let hosts = g.H.Hosts.state c.args.hosts.now in
    let holds = holding c.answer_all.new.self.protocol.keeper (g.H.Hosts.state c.answer_all.new.outside) in
    let all = subst (λ (k : Keeping). ServedAndHeard (session (setting_of g.H.Hosts.answer g.H.Hosts.after sheet_at g.E.Engine.body)) g.T.Audience.hears c.args.most c.answer_all.result
    (protocol.surroundings (g.S.Source.left c.args.source.now) (g.K.Sink.written c.args.output.now.sink) (holding k hosts) (g.E.Engine.ran c.args.engine.now))
    (protocol.surroundings (g.S.Source.left c.answer_all.new.source) (g.K.Sink.written c.answer_all.new.output.sink) holds (g.E.Engine.ran c.answer_all.new.engine))
    (g.T.Audience.state c.args.output.now.audience) (g.T.Audience.state c.answer_all.new.output.audience))
    c.new-protocol.ensures c.answer_all.ensures.served in
    record { served = record { holds = holds; hosts = refl; served = all.served }; heard = all.heard }
