use Rattle.std.proofs.Common.{refl, sym, ap, ◌∙◌, arith}
use Rattle.sw_cmd_line.specs.Forms.{target_seen}
use Rattle.sw_cmd_protocol.specs.Heard.{told_of}
use Rattle.sw_cmd_protocol.specs.Turns.{standing}
use Rattle.sw_cmd_protocol.proofs.Fronts.{if_ok, if_err}
use Rattle.sw_cmd_session.specs.Sheets.{hostless}
use Rattle.sw_cmd_protocol.proofs.LineTurns.{not_source}
use Rattle.sw_cmd_run.specs.Poll.{held, word_of}
use Rattle.sw_cmd_run.proofs.Lines.{line_closes, line_is_wrong, scan_answers, scan_stops}
use Rattle.sw_cmd_run.proofs.poll.scan_turn.Goals as goal

pub returns-in-Scan-clause-ok : goal.returns-in-Scan-clause-ok
returns-in-Scan-clause-ok g c =
    let t = target_seen c.args.poll.now.target in
    let dir = c.args.poll.now.target.dir.now in
    if_ok c.scan.result (λ reply. scan_answers (hostless g.E.Engine.body) c.args.lines.now.line.items c.args.lines.now.reader (g.S.Source.left c.args.source.now)
    (g.K.Sink.written c.args.sink.now) (g.K.Sink.written c.scan.new.sink)
    (standing (held t (g.D.Disk.course c.args.disk.now dir) c.args.poll.now.watched.kept) (g.E.Engine.ran c.args.engine.now))
    (standing (held t (g.D.Disk.course c.scan.new.disk dir) c.scan.new.watched.kept) (g.E.Engine.ran c.scan.new.engine))
    (sym (ap word_of c.deref.ensures.value) ∙ sym c.word_of.ensures ∙ c.in-Scan.is) (told_of reply)) c.scan.ensures.ok

pub returns-in-Scan-clause-err : goal.returns-in-Scan-clause-err
returns-in-Scan-clause-err g c =
    let t = target_seen c.args.poll.now.target in
    let dir = c.args.poll.now.target.dir.now in
    if_err c.scan.result (λ stop. scan_stops (hostless g.E.Engine.body) c.args.lines.now.line.items c.args.lines.now.reader (g.S.Source.left c.args.source.now)
    (g.K.Sink.written c.args.sink.now) (g.K.Sink.written c.scan.new.sink)
    (standing (held t (g.D.Disk.course c.args.disk.now dir) c.args.poll.now.watched.kept) (g.E.Engine.ran c.args.engine.now))
    (standing (held t (g.D.Disk.course c.scan.new.disk dir) c.scan.new.watched.kept) (g.E.Engine.ran c.scan.new.engine))
    (sym (ap word_of c.deref.ensures.value) ∙ sym c.word_of.ensures ∙ c.in-Scan.is) stop c.requires) c.scan.ensures.err

-- a scan doesn't look at the source
pub returns-in-Scan-clause-source_cause : goal.returns-in-Scan-clause-source_cause
returns-in-Scan-clause-source_cause g c = record { later = omega arith; rose = not_source _ c.scan.result (λ x. x) c.scan.ensures.err; fine = λ _. refl }

pub returns-in-End-clause-err : goal.returns-in-End-clause-err
returns-in-End-clause-err g c =
    let written = g.K.Sink.written c.args.sink.now in
    let s = standing (held (target_seen c.args.poll.now.target) (g.D.Disk.course c.args.disk.now c.args.poll.now.target.dir.now) c.args.poll.now.watched.kept) (g.E.Engine.ran c.args.engine.now) in
    line_closes (hostless g.E.Engine.body) c.args.lines.now.line.items c.args.lines.now.reader (g.S.Source.left c.args.source.now) written written s s
    (sym (ap word_of c.deref.ensures.value) ∙ sym c.word_of.ensures ∙ c.in-End.is)

pub returns-in-Other-clause-err : goal.returns-in-Other-clause-err
returns-in-Other-clause-err g c =
    let written = g.K.Sink.written c.args.sink.now in
    let s = standing (held (target_seen c.args.poll.now.target) (g.D.Disk.course c.args.disk.now c.args.poll.now.target.dir.now) c.args.poll.now.watched.kept) (g.E.Engine.ran c.args.engine.now) in
    line_is_wrong (hostless g.E.Engine.body) c.args.lines.now.line.items c.args.lines.now.reader (g.S.Source.left c.args.source.now) written written s s
    (sym (ap word_of c.deref.ensures.value) ∙ sym c.word_of.ensures ∙ c.in-Other.is)
