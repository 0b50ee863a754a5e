use Rattle.std.proofs.Common.{[], refl, sym, ap, subst}
use Rattle.sw_cmd_line.specs.Forms.{Target, target_seen}
use Rattle.sw_keeper.specs.Keeping.{Keeping, Table}
use Rattle.sw_cmd_protocol.specs.Served as protocol
use Rattle.sw_cmd_protocol.specs.Heard.{ServedAndHeard}
use Rattle.sw_cmd_protocol.specs.Turns.{standing}
use Rattle.sw_cmd_protocol.proofs.Serving.{no_lines}
use Rattle.sw_cmd_session.specs.Sheets.{hostless}
use Rattle.sw_cmd_run.specs.Poll.{held, poll}
use Rattle.sw_cmd_run.proofs.Following.{same_target}
use Rattle.sw_cmd_run.proofs.service.polled.Goals as goal

pub returns-in-Err-clause-served : goal.returns-in-Err-clause-served
returns-in-Err-clause-served g c =
    let first = held (target_seen c.args.target.now) (g.D.Disk.course c.args.disk.now c.args.target.now.dir.now) [] in
    let none = no_lines (poll (hostless g.E.Engine.body)) 1000000 (standing first (g.E.Engine.ran c.args.engine.now))
    g.T.Audience.hears (g.T.Audience.state c.args.output.now.audience) (g.S.Source.left c.args.source.now) (g.K.Sink.written c.args.output.now.sink) in
    record { served = record { holds = first; course = refl; served = none.served }; heard = none.heard }

pub returns-in-Ok-clause-served : goal.returns-in-Ok-clause-served
returns-in-Ok-clause-served g c =
    let dir = c.args.target.now.dir.now in
    let holds = held (target_seen c.answer_all.new.self.protocol.target) (g.D.Disk.course c.answer_all.new.outside c.answer_all.new.self.protocol.target.dir.now) c.answer_all.new.self.protocol.watched.kept in
    let before = protocol.surroundings (g.S.Source.left c.args.source.now) (g.K.Sink.written c.args.output.now.sink) (held (target_seen c.args.target.now) (g.D.Disk.course c.args.disk.now dir) []) (g.E.Engine.ran c.args.engine.now) in
    let after = protocol.surroundings (g.S.Source.left c.answer_all.new.source) (g.K.Sink.written c.answer_all.new.output.sink) holds (g.E.Engine.ran c.answer_all.new.engine) in
    let all = subst (λ (kept : Table). ServedAndHeard (poll (hostless g.E.Engine.body)) g.T.Audience.hears 1000000 c.answer_all.result
    (protocol.surroundings (g.S.Source.left c.args.source.now) (g.K.Sink.written c.args.output.now.sink) (held (target_seen c.args.target.now) (g.D.Disk.course c.args.disk.now dir) kept) (g.E.Engine.ran c.args.engine.now))
    (protocol.surroundings (g.S.Source.left c.answer_all.new.source) (g.K.Sink.written c.answer_all.new.output.sink) holds (g.E.Engine.ran c.answer_all.new.engine))
    (g.T.Audience.state c.args.output.now.audience) (g.T.Audience.state c.answer_all.new.output.audience))
    (ap (λ (k : Keeping). k.kept) c.new-watched.ensures) c.answer_all.ensures.served in
    let same = same_target (hostless g.E.Engine.body) 1000000 c.answer_all.result before after all.served in
    record {
      served = record { holds = holds; course = ap (λ (t : Target). g.D.Disk.course c.answer_all.new.outside t.dir) (sym same); served = all.served };
      heard = all.heard;
    }
