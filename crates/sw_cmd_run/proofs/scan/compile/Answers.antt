use Rattle.std.proofs.Common.{Option, Some}
use Rattle.sw_io.specs.Disks.{Course}
use Rattle.sw_cmd_disk_folder.specs.Held.{IsRead}
use Rattle.sw_cmd_line.specs.Forms.{target_seen}
use Rattle.sw_cmd_protocol.specs.Heard.{told_of}
use Rattle.sw_cmd_protocol.specs.Turns.{standing, Says}
use Rattle.sw_cmd_protocol.proofs.Fronts.{if_err}
use Rattle.sw_cmd_session.specs.Sheets.{hostless}
use Rattle.sw_cmd_session.proofs.Turning.{given_by}
use Rattle.sw_cmd_run.specs.Poll.{Scan, held, poll}
use Rattle.sw_cmd_run.proofs.Scanning.{compile_says, compile_stops, refusal_says, refusal_says_some}
use Rattle.sw_cmd_run.proofs.scan.compile.Goals as goal

pub returns-in-Ok-clause-ok : goal.returns-in-Ok-clause-ok
returns-in-Ok-clause-ok g c =
    let setting = hostless g.E.Engine.body in
    let t = target_seen c.args.target.now in
    given_by (λ reply. (before now : Option Course) → IsRead before now c.args.watched.now.folder → Says (poll setting) Scan (told_of reply)
    (standing (held t before c.args.watched.now.kept) (g.E.Engine.ran c.args.engine.now)) (standing (held t now c.compile.new.self.kept) (g.E.Engine.ran c.compile.new.engine))
    (g.K.Sink.written c.args.sink.now) (g.K.Sink.written c.send_reply.new.sink))
    (Some c.in-Ok.reply) c.send_reply.result c.send_reply.ensures.back c.send_reply.ensures.ok
    (λ a before now read. compile_says setting t before now c.args.watched.now c.compile.new.self (g.E.Engine.ran c.args.engine.now) (g.E.Engine.ran c.compile.new.engine) _ _ read
    c.in-Ok.reply c.in-Ok.ensures.ok a)

pub returns-in-Ok-clause-err : goal.returns-in-Ok-clause-err
returns-in-Ok-clause-err g c =
    if_err c.send_reply.result (λ stop e before now read. compile_stops (hostless g.E.Engine.body) (target_seen c.args.target.now) before now c.args.watched.now c.compile.new.self
    (g.E.Engine.ran c.args.engine.now) (g.E.Engine.ran c.compile.new.engine) _ _ read c.in-Ok.reply c.in-Ok.ensures.ok stop e) c.send_reply.ensures.err

pub returns-in-Ok-send-clause-ok : goal.returns-in-Ok-send-clause-ok
returns-in-Ok-send-clause-ok g c =
    let e = c.in-Err.ensures in
    λ before now read. refusal_says (hostless g.E.Engine.body) (target_seen c.args.target.now) before now c.args.watched.now c.compile.new.self
    (g.E.Engine.ran c.args.engine.now) (g.E.Engine.ran c.compile.new.engine) _ _ read e.unchanged e.err.more e.err.told c.memory_reply.result.now c.memory_reply.ensures c.in-Ok-send.ensures.ok

pub returns-in-Err-send-clause-err : goal.returns-in-Err-send-clause-err
returns-in-Err-send-clause-err g c =
    let e = c.in-Err.ensures in
    λ before now read. refusal_says_some (hostless g.E.Engine.body) (target_seen c.args.target.now) before now c.args.watched.now c.compile.new.self
    (g.E.Engine.ran c.args.engine.now) (g.E.Engine.ran c.compile.new.engine) _ _ read e.unchanged e.err.more e.err.told c.memory_reply.result.now c.memory_reply.ensures c.in-Err-send.ensures.err
