use Rattle.std.proofs.Common.{[], Some, refl, sym, ap, ◌∙◌}
use Rattle.sw_wire.specs.declared.request.Request.TheVariants.{Remove as Remove_line, Compile as Compile_line}
use Rattle.sw_wire.specs.Requests.{request_of}
use Rattle.sw_cmd_protocol.specs.Heard.{told_of}
use Rattle.sw_cmd_protocol.specs.Turns.{place, standing}
use Rattle.sw_cmd_protocol.proofs.Fronts.{if_ok, if_err}
use Rattle.sw_cmd_session.specs.Script.{Remove, Compile}
use Rattle.sw_modules.specs.Fresh.{setting_of}
use Rattle.sw_parse_file.specs.Files.{sheet_at}
use Rattle.sw_cmd_session.specs.Transcript.{holding}
use Rattle.sw_cmd_session.proofs.Turning.{line_answers, line_breaks, removal_says, removal_stops, put_answers, put_stops}
use Rattle.sw_cmd_session.proofs.session.request_turn.Goals as goal

pub returns-in-Compile-clause-ok : goal.returns-in-Compile-clause-ok
returns-in-Compile-clause-ok g c =
    if_ok c.compile.result (λ reply. line_answers (setting_of g.H.Hosts.answer g.H.Hosts.after sheet_at g.E.Engine.body) c.args.lines.now.line.items c.args.lines.now.reader (g.S.Source.left c.args.source.now)
    (g.K.Sink.written c.args.sink.now) (g.K.Sink.written c.compile.new.sink)
    (standing (holding c.args.session.now.keeper (g.H.Hosts.state c.args.hosts.now)) (g.E.Engine.ran c.args.engine.now))
    (standing (holding c.compile.new.self.keeper (g.H.Hosts.state c.compile.new.hosts)) (g.E.Engine.ran c.compile.new.engine))
    (Compile_line c.in-Compile.entry c.in-Compile.paths) (Compile c.in-Compile.entry c.in-Compile.paths)
    (sym (ap request_of c.deref.ensures.value) ∙ c.in_ok-request_in.ensures.ok ∙ ap Some c.in-Compile.is) (λ rest. refl) (told_of reply)) c.compile.ensures.ok

pub returns-in-Compile-clause-err : goal.returns-in-Compile-clause-err
returns-in-Compile-clause-err g c =
    if_err c.compile.result (λ stop. line_breaks (setting_of g.H.Hosts.answer g.H.Hosts.after sheet_at g.E.Engine.body) c.args.lines.now.line.items c.args.lines.now.reader (g.S.Source.left c.args.source.now)
    (g.K.Sink.written c.args.sink.now) (g.K.Sink.written c.compile.new.sink)
    (standing (holding c.args.session.now.keeper (g.H.Hosts.state c.args.hosts.now)) (g.E.Engine.ran c.args.engine.now))
    (standing (holding c.compile.new.self.keeper (g.H.Hosts.state c.compile.new.hosts)) (g.E.Engine.ran c.compile.new.engine))
    (Compile_line c.in-Compile.entry c.in-Compile.paths) (Compile c.in-Compile.entry c.in-Compile.paths)
    (sym (ap request_of c.deref.ensures.value) ∙ c.in_ok-request_in.ensures.ok ∙ ap Some c.in-Compile.is) (λ rest. refl) c.requires stop) c.compile.ensures.err

pub returns-in-Ok-clause-ok : goal.returns-in-Ok-clause-ok
returns-in-Ok-clause-ok g c =
    let setting = (setting_of g.H.Hosts.answer g.H.Hosts.after sheet_at g.E.Engine.body) in
    line_answers setting c.args.lines.now.line.items c.args.lines.now.reader (g.S.Source.left c.args.source.now)
    (g.K.Sink.written c.args.sink.now) (g.K.Sink.written c.answer_removal.new.sink)
    (standing (holding c.args.session.now.keeper (g.H.Hosts.state c.args.hosts.now)) (g.E.Engine.ran c.args.engine.now))
    (standing (holding c.answer_removal.new.edited.keeper (g.H.Hosts.state c.args.hosts.now)) (g.E.Engine.ran c.args.engine.now))
    (Remove_line c.in-Remove.path) (Remove c.in-Remove.path) (sym (ap request_of c.deref.ensures.value) ∙ c.in_ok-request_in.ensures.ok ∙ ap Some c.in-Remove.is) (λ rest. refl) []
    (removal_says setting (g.H.Hosts.state c.args.hosts.now) (g.E.Engine.ran c.args.engine.now) c.args.session.now.keeper c.answer_removal.new.edited.keeper c.answer_removal.ensures.rest _ _
    c.in-Remove.path c.answer_removal.ensures.folder c.in-Ok.ensures.ok)

pub returns-in-Remove-clause-err : goal.returns-in-Remove-clause-err
returns-in-Remove-clause-err g c =
    let setting = (setting_of g.H.Hosts.answer g.H.Hosts.after sheet_at g.E.Engine.body) in
    line_breaks setting c.args.lines.now.line.items c.args.lines.now.reader (g.S.Source.left c.args.source.now)
    (g.K.Sink.written c.args.sink.now) (g.K.Sink.written c.answer_removal.new.sink)
    (standing (holding c.args.session.now.keeper (g.H.Hosts.state c.args.hosts.now)) (g.E.Engine.ran c.args.engine.now))
    (standing (holding c.answer_removal.new.edited.keeper (g.H.Hosts.state c.args.hosts.now)) (g.E.Engine.ran c.args.engine.now))
    (Remove_line c.in-Remove.path) (Remove c.in-Remove.path) (sym (ap request_of c.deref.ensures.value) ∙ c.in_ok-request_in.ensures.ok ∙ ap Some c.in-Remove.is) (λ rest. refl) c.requires c.in-Err.stop
    (removal_stops setting (g.H.Hosts.state c.args.hosts.now) (g.E.Engine.ran c.args.engine.now) c.args.session.now.keeper c.answer_removal.new.edited.keeper c.answer_removal.ensures.rest _ _
    c.in-Remove.path c.answer_removal.ensures.folder c.in-Err.stop c.in-Err.ensures.err)

pub returns-in-Ok-answer_put-clause-ok : goal.returns-in-Ok-answer_put-clause-ok
returns-in-Ok-answer_put-clause-ok g c =
    put_answers (setting_of g.H.Hosts.answer g.H.Hosts.after sheet_at g.E.Engine.body) (g.H.Hosts.state c.args.hosts.now) (g.E.Engine.ran c.args.engine.now)
    c.args.session.now.keeper c.answer_put.new.edited.keeper c.answer_put.ensures.rest c.args.lines.now.line.items c.in-Put.path c.in-Put.length
    (sym (ap request_of c.deref.ensures.value) ∙ c.in_ok-request_in.ensures.ok ∙ ap Some c.in-Put.is)
    (place c.args.lines.now.reader (g.S.Source.left c.args.source.now) (g.K.Sink.written c.args.sink.now))
    (place c.answer_put.new.reader (g.S.Source.left c.answer_put.new.source) (g.K.Sink.written c.answer_put.new.sink)) c.in-Ok-answer_put.ensures.ok

pub returns-clause-err : goal.returns-clause-err
returns-clause-err g c =
    put_stops (setting_of g.H.Hosts.answer g.H.Hosts.after sheet_at g.E.Engine.body) (g.H.Hosts.state c.args.hosts.now) (g.E.Engine.ran c.args.engine.now)
    c.args.session.now.keeper c.answer_put.new.edited.keeper c.answer_put.ensures.rest c.args.lines.now.line.items c.in-Put.path c.in-Put.length
    (sym (ap request_of c.deref.ensures.value) ∙ c.in_ok-request_in.ensures.ok ∙ ap Some c.in-Put.is)
    (place c.args.lines.now.reader (g.S.Source.left c.args.source.now) (g.K.Sink.written c.args.sink.now))
    (place c.answer_put.new.reader (g.S.Source.left c.answer_put.new.source) (g.K.Sink.written c.answer_put.new.sink)) c.in-Err-answer_put.stop c.in-Err-answer_put.ensures.err
