use Rattle.std.proofs.Common.{Some, refl, sym, ap, ◌∙◌, arith}
use Rattle.sw_wire.specs.declared.request.StepRequest.TheVariants as line
use Rattle.sw_wire.specs.Requests.{step_request_of}
use Rattle.sw_modules.specs.Settings.{hostless}
use Rattle.sw_cmd_protocol.specs.Turns.{place, standing}
use Rattle.sw_cmd_protocol.proofs.Fronts.{on_ok, if_err}
use Rattle.sw_cmd_protocol.proofs.LineTurns.{not_source}
use Rattle.sw_cmd_steps.specs.Script.{Remove, Start, Step}
use Rattle.sw_cmd_steps.proofs.Saying.{removal_says, removal_stops}
use Rattle.sw_cmd_steps.proofs.Turning.{line_answers, line_breaks, put_answers, put_stops}
use Rattle.sw_cmd_steps.proofs.stepping.request_turn.Goals as goal

pub returns-in-Step-clause-ok : goal.returns-in-Step-clause-ok
returns-in-Step-clause-ok g c =
    on_ok c.step.result (λ x. line_answers (hostless g.R.Reader.reads g.E.Engine.body) c.args.lines.now.line.items c.args.lines.now.reader (g.S.Source.left c.args.source.now)
    (g.K.Sink.written c.args.sink.now) (g.K.Sink.written c.step.new.sink)
    (standing c.args.stepping.now.steps (g.E.Engine.ran c.args.engine.now)) (standing c.step.new.self.steps (g.E.Engine.ran c.step.new.engine))
    (line.Step c.in-Step.number) (Step c.in-Step.number) (sym (ap step_request_of c.deref.ensures.value) ∙ c.in_ok-request_in.ensures.ok ∙ ap Some c.in-Step.is) (λ rest. refl) (x)) c.step.ensures.ok

pub returns-in-Step-clause-err : goal.returns-in-Step-clause-err
returns-in-Step-clause-err g c =
    if_err c.step.result (λ stop x. line_breaks (hostless g.R.Reader.reads g.E.Engine.body) c.args.lines.now.line.items c.args.lines.now.reader (g.S.Source.left c.args.source.now)
    (g.K.Sink.written c.args.sink.now) (g.K.Sink.written c.step.new.sink)
    (standing c.args.stepping.now.steps (g.E.Engine.ran c.args.engine.now)) (standing c.step.new.self.steps (g.E.Engine.ran c.step.new.engine))
    (line.Step c.in-Step.number) (Step c.in-Step.number) (sym (ap step_request_of c.deref.ensures.value) ∙ c.in_ok-request_in.ensures.ok ∙ ap Some c.in-Step.is) (λ rest. refl) c.requires stop (x)) c.step.ensures.err

pub returns-in-Start-clause-ok : goal.returns-in-Start-clause-ok
returns-in-Start-clause-ok g c =
    on_ok c.start.result (λ x. line_answers (hostless g.R.Reader.reads g.E.Engine.body) c.args.lines.now.line.items c.args.lines.now.reader (g.S.Source.left c.args.source.now)
    (g.K.Sink.written c.args.sink.now) (g.K.Sink.written c.start.new.sink)
    (standing c.args.stepping.now.steps (g.E.Engine.ran c.args.engine.now)) (standing c.start.new.self.steps (g.E.Engine.ran c.args.engine.now))
    (line.Start c.in-Start.entry c.in-Start.paths) (Start c.in-Start.entry c.in-Start.paths) (sym (ap step_request_of c.deref.ensures.value) ∙ c.in_ok-request_in.ensures.ok ∙ ap Some c.in-Start.is) (λ rest. refl) (x (g.E.Engine.ran c.args.engine.now))) c.start.ensures.ok

pub returns-in-Start-clause-err : goal.returns-in-Start-clause-err
returns-in-Start-clause-err g c =
    if_err c.start.result (λ stop x. line_breaks (hostless g.R.Reader.reads g.E.Engine.body) c.args.lines.now.line.items c.args.lines.now.reader (g.S.Source.left c.args.source.now)
    (g.K.Sink.written c.args.sink.now) (g.K.Sink.written c.start.new.sink)
    (standing c.args.stepping.now.steps (g.E.Engine.ran c.args.engine.now)) (standing c.start.new.self.steps (g.E.Engine.ran c.args.engine.now))
    (line.Start c.in-Start.entry c.in-Start.paths) (Start c.in-Start.entry c.in-Start.paths) (sym (ap step_request_of c.deref.ensures.value) ∙ c.in_ok-request_in.ensures.ok ∙ ap Some c.in-Start.is) (λ rest. refl) c.requires stop (x (g.E.Engine.ran c.args.engine.now))) c.start.ensures.err

pub returns-in-Start-clause-source_cause : goal.returns-in-Start-clause-source_cause
returns-in-Start-clause-source_cause g c =
    record { later = omega arith; rose = not_source _ c.start.result (λ x. x (g.E.Engine.ran c.args.engine.now)) c.start.ensures.err; fine = λ _. refl }

pub returns-in-Remove-clause-ok : goal.returns-in-Remove-clause-ok
returns-in-Remove-clause-ok g c =
    on_ok c.answer_removal.result (λ x. line_answers (hostless g.R.Reader.reads g.E.Engine.body) c.args.lines.now.line.items c.args.lines.now.reader (g.S.Source.left c.args.source.now)
    (g.K.Sink.written c.args.sink.now) (g.K.Sink.written c.answer_removal.new.sink)
    (standing c.args.stepping.now.steps (g.E.Engine.ran c.args.engine.now)) (standing c.answer_removal.new.edited.steps (g.E.Engine.ran c.args.engine.now))
    (line.Remove c.in-Remove.path) (Remove c.in-Remove.path) (sym (ap step_request_of c.deref.ensures.value) ∙ c.in_ok-request_in.ensures.ok ∙ ap Some c.in-Remove.is) (λ rest. refl) (removal_says (hostless g.R.Reader.reads g.E.Engine.body) c.args.stepping.now.steps c.answer_removal.new.edited.steps (g.E.Engine.ran c.args.engine.now) _ _ c.in-Remove.path c.answer_removal.ensures.folder c.answer_removal.ensures.rest x)) c.answer_removal.ensures.ok

pub returns-in-Remove-clause-err : goal.returns-in-Remove-clause-err
returns-in-Remove-clause-err g c =
    if_err c.answer_removal.result (λ stop x. line_breaks (hostless g.R.Reader.reads g.E.Engine.body) c.args.lines.now.line.items c.args.lines.now.reader (g.S.Source.left c.args.source.now)
    (g.K.Sink.written c.args.sink.now) (g.K.Sink.written c.answer_removal.new.sink)
    (standing c.args.stepping.now.steps (g.E.Engine.ran c.args.engine.now)) (standing c.answer_removal.new.edited.steps (g.E.Engine.ran c.args.engine.now))
    (line.Remove c.in-Remove.path) (Remove c.in-Remove.path) (sym (ap step_request_of c.deref.ensures.value) ∙ c.in_ok-request_in.ensures.ok ∙ ap Some c.in-Remove.is) (λ rest. refl) c.requires stop (removal_stops (hostless g.R.Reader.reads g.E.Engine.body) c.args.stepping.now.steps c.answer_removal.new.edited.steps (g.E.Engine.ran c.args.engine.now) _ _ c.in-Remove.path c.answer_removal.ensures.folder c.answer_removal.ensures.rest stop x)) c.answer_removal.ensures.err

pub returns-in-Put-clause-ok : goal.returns-in-Put-clause-ok
returns-in-Put-clause-ok g c =
    on_ok c.answer_put.result (put_answers (hostless g.R.Reader.reads g.E.Engine.body) c.args.stepping.now.steps c.answer_put.new.edited.steps c.answer_put.ensures.rest (g.E.Engine.ran c.args.engine.now) c.args.lines.now.line.items c.in-Put.path c.in-Put.length
    (sym (ap step_request_of c.deref.ensures.value) ∙ c.in_ok-request_in.ensures.ok ∙ ap Some c.in-Put.is)
    (place c.args.lines.now.reader (g.S.Source.left c.args.source.now) (g.K.Sink.written c.args.sink.now))
    (place c.answer_put.new.reader (g.S.Source.left c.answer_put.new.source) (g.K.Sink.written c.answer_put.new.sink))) c.answer_put.ensures.ok

pub returns-in-Put-clause-err : goal.returns-in-Put-clause-err
returns-in-Put-clause-err g c =
    if_err c.answer_put.result (put_stops (hostless g.R.Reader.reads g.E.Engine.body) c.args.stepping.now.steps c.answer_put.new.edited.steps c.answer_put.ensures.rest (g.E.Engine.ran c.args.engine.now) c.args.lines.now.line.items c.in-Put.path c.in-Put.length
    (sym (ap step_request_of c.deref.ensures.value) ∙ c.in_ok-request_in.ensures.ok ∙ ap Some c.in-Put.is)
    (place c.args.lines.now.reader (g.S.Source.left c.args.source.now) (g.K.Sink.written c.args.sink.now))
    (place c.answer_put.new.reader (g.S.Source.left c.answer_put.new.source) (g.K.Sink.written c.answer_put.new.sink))) c.answer_put.ensures.err
