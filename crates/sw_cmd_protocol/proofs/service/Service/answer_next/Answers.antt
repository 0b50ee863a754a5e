use Rattle.std.proofs.lemmas.Result.{err_from_is_err_and}
use Rattle.sw_io.specs.declared.stop.ReadStop.TheVariants.{Failed}
use Rattle.sw_io.proofs.Causes.{after_none, fine_ok}
use Rattle.sw_cmd_protocol.specs.declared.stop.Stop.TheVariants.{SourceFailed}
use Rattle.sw_cmd_protocol.specs.Heard.{told_of}
use Rattle.sw_cmd_protocol.proofs.Writing.{appends_none}
use Rattle.sw_cmd_protocol.proofs.Fronts.{line_stops, line_cause, turn_answers, turn_stops, if_ok, if_err}
use Rattle.sw_cmd_protocol.proofs.service.Service.answer_next.Goals as goal

pub returns-in_err-read-clause-err : goal.returns-in_err-read-clause-err
returns-in_err-read-clause-err g c =
    let q = err_from_is_err_and c.from_residual.result c.from_residual.ensures.1 in
    let e = c.in_err-read.ensures.err in
    rw (q.1, q.2) (line_stops g.P.Protocol.rules _ e.0 _ _ _ _ _ e.1 (appends_none _) e.2)

pub returns-in_err-read-clause-source_cause : goal.returns-in_err-read-clause-source_cause
returns-in_err-read-clause-source_cause g c =
    let q = err_from_is_err_and c.from_residual.result c.from_residual.ensures.1 in
    rw (q.1, q.2) (line_cause _ _ _ c.in_err-read.ensures.cause)

pub returns-clause-source_cause : goal.returns-clause-source_cause
returns-clause-source_cause g c = after_none SourceFailed _ _ _ c.answer_request.result (fine_ok Failed _ _ _ c.in_ok-read.ensures.cause) c.answer_request.ensures.source_cause

pub returns-clause-ok : goal.returns-clause-ok
returns-clause-ok g c =
    let r = c.in_ok-read.ensures.ok in
    if_ok c.answer_request.result (λ reply. turn_answers g.P.Protocol.rules c.read.new.self.line.items c.read.new.self.reader (g.S.Source.left c.read.new.source) _ _ _ _ r.0 r.1 (told_of reply)) c.answer_request.ensures.ok

pub returns-clause-err : goal.returns-clause-err
returns-clause-err g c =
    let r = c.in_ok-read.ensures.ok in
    if_err c.answer_request.result (turn_stops g.P.Protocol.rules c.read.new.self.line.items c.read.new.self.reader (g.S.Source.left c.read.new.source) _ _ _ _ r.0 r.1) c.answer_request.ensures.err
