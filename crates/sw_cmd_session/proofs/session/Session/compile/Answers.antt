use Rattle.std.proofs.Common.{List, ℕ, Some, subst}
use Rattle.sw_keeper.specs.Compile.{compiled, CompilesTo, BreaksOff}
use Rattle.sw_cmd_protocol.specs.Heard.{told_of}
use Rattle.sw_cmd_protocol.specs.Turns.{standing, Says}
use Rattle.sw_cmd_protocol.proofs.Fronts.{if_err}
use Rattle.sw_modules.specs.Fresh.{setting_of}
use Rattle.sw_parse_file.specs.Files.{sheet_at}
use Rattle.sw_cmd_session.specs.Script.{Compile}
use Rattle.sw_cmd_session.specs.Transcript.{holding, session}
use Rattle.sw_cmd_session.proofs.Turning.{keeping, given_by, compile_says, compile_stops, refusal_says, refusal_stops}
use Rattle.sw_cmd_session.proofs.session.Session.compile.Goals as goal

pub returns-in-Ok-clause-ok : goal.returns-in-Ok-clause-ok
returns-in-Ok-clause-ok g c =
    let e = c.in-Ok.ensures in
    let setting = setting_of g.H.Hosts.answer g.H.Hosts.after sheet_at g.E.Engine.body in
    let before = standing (holding c.args.self.now.keeper (g.H.Hosts.state c.args.hosts.now)) (g.E.Engine.ran c.args.engine.now) in
    let after = standing (holding c.compile.new.self (g.H.Hosts.state c.compile.new.hosts)) (g.E.Engine.ran c.compile.new.engine) in
    given_by (λ reply. Says (session setting) (Compile c.args.entry.now c.args.paths.now) (told_of reply) before after (g.K.Sink.written c.args.sink.now) (g.K.Sink.written c.send_reply.new.sink))
    (Some c.in-Ok.reply) c.send_reply.result c.send_reply.ensures.back c.send_reply.ensures.ok (compile_says setting c.args.entry.now c.args.paths.now before after c.in-Ok.reply _ _
    (subst (λ (p : List (List ℕ)). CompilesTo (compiled setting c.args.self.now.keeper.folder p c.args.entry.now (g.H.Hosts.state c.args.hosts.now)) c.in-Ok.reply (keeping before.held) (keeping after.held) after.held.hosts before.ran after.ran) c.as_slice.ensures
    e.ok))

pub returns-in-Ok-clause-err : goal.returns-in-Ok-clause-err
returns-in-Ok-clause-err g c =
    let e = c.in-Ok.ensures in
    let setting = setting_of g.H.Hosts.answer g.H.Hosts.after sheet_at g.E.Engine.body in
    let before = standing (holding c.args.self.now.keeper (g.H.Hosts.state c.args.hosts.now)) (g.E.Engine.ran c.args.engine.now) in
    let after = standing (holding c.compile.new.self (g.H.Hosts.state c.compile.new.hosts)) (g.E.Engine.ran c.compile.new.engine) in
    if_err c.send_reply.result (compile_stops setting c.args.entry.now c.args.paths.now before after c.in-Ok.reply _ _
    (subst (λ (p : List (List ℕ)). CompilesTo (compiled setting c.args.self.now.keeper.folder p c.args.entry.now (g.H.Hosts.state c.args.hosts.now)) c.in-Ok.reply (keeping before.held) (keeping after.held) after.held.hosts before.ran after.ran) c.as_slice.ensures
    e.ok)) c.send_reply.ensures.err

pub returns-in-Ok-answer-clause-ok : goal.returns-in-Ok-answer-clause-ok
returns-in-Ok-answer-clause-ok g c =
    let e = c.in-Err.ensures in
    let setting = setting_of g.H.Hosts.answer g.H.Hosts.after sheet_at g.E.Engine.body in
    let breaks = subst (λ (p : List (List ℕ)). BreaksOff setting c.args.self.now.keeper.folder p c.args.entry.now (g.H.Hosts.state c.args.hosts.now) (g.H.Hosts.state c.compile.new.hosts) (g.E.Engine.ran c.args.engine.now) (g.E.Engine.ran c.compile.new.engine)) c.as_slice.ensures e.err in
    refusal_says (setting_of g.H.Hosts.answer g.H.Hosts.after sheet_at g.E.Engine.body) c.args.entry.now c.args.paths.now c.args.self.now.keeper c.compile.new.self
    (g.H.Hosts.state c.args.hosts.now) (g.H.Hosts.state c.compile.new.hosts) (g.E.Engine.ran c.args.engine.now) (g.E.Engine.ran c.compile.new.engine) _ _ c.memory_reply.result.now
    e.unchanged breaks c.memory_reply.ensures c.in-Ok-answer.ensures.ok

pub returns-in-Err-answer-clause-err : goal.returns-in-Err-answer-clause-err
returns-in-Err-answer-clause-err g c =
    let e = c.in-Err.ensures in
    let setting = setting_of g.H.Hosts.answer g.H.Hosts.after sheet_at g.E.Engine.body in
    let breaks = subst (λ (p : List (List ℕ)). BreaksOff setting c.args.self.now.keeper.folder p c.args.entry.now (g.H.Hosts.state c.args.hosts.now) (g.H.Hosts.state c.compile.new.hosts) (g.E.Engine.ran c.args.engine.now) (g.E.Engine.ran c.compile.new.engine)) c.as_slice.ensures e.err in
    refusal_stops (setting_of g.H.Hosts.answer g.H.Hosts.after sheet_at g.E.Engine.body) c.args.entry.now c.args.paths.now c.args.self.now.keeper c.compile.new.self
    (g.H.Hosts.state c.args.hosts.now) (g.H.Hosts.state c.compile.new.hosts) (g.E.Engine.ran c.args.engine.now) (g.E.Engine.ran c.compile.new.engine) _ _ c.memory_reply.result.now
    e.unchanged breaks c.memory_reply.ensures c.in-Err-answer.stop c.in-Err-answer.ensures.err
