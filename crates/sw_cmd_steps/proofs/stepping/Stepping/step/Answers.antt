use Rattle.sw_modules.specs.Settings.{hostless}
use Rattle.sw_cmd_protocol.proofs.Fronts.{on_ok, if_err}
use Rattle.sw_cmd_steps.proofs.Saying.{step_says, step_stops, none_says, none_stops, no_step_says, no_step_stops}
use Rattle.sw_cmd_steps.proofs.stepping.Stepping.step.Goals as goal

pub returns-in-Ok-clause-ok : goal.returns-in-Ok-clause-ok
returns-in-Ok-clause-ok g c =
    let setting = hostless g.R.Reader.reads g.E.Engine.body in
    on_ok c.send_stepped.result (step_says setting c.args.self.now.steps c.step.new.self (g.E.Engine.ran c.args.engine.now) (g.E.Engine.ran c.step.new.engine) _ _ c.args.number c.in-Ok.stepped c.in-Ok.ensures.ok c.in-Ok.ensures.ran)
    c.send_stepped.ensures.ok

pub returns-in-Ok-clause-err : goal.returns-in-Ok-clause-err
returns-in-Ok-clause-err g c =
    let setting = hostless g.R.Reader.reads g.E.Engine.body in
    if_err c.send_stepped.result (step_stops setting c.args.self.now.steps c.step.new.self (g.E.Engine.ran c.args.engine.now) (g.E.Engine.ran c.step.new.engine) _ _ c.args.number c.in-Ok.stepped c.in-Ok.ensures.ok c.in-Ok.ensures.ran)
    c.send_stepped.ensures.err

pub returns-in-Err-NoCompile-clause-ok : goal.returns-in-Err-NoCompile-clause-ok
returns-in-Err-NoCompile-clause-ok g c =
    let setting = hostless g.R.Reader.reads g.E.Engine.body in
    let e = c.in-Err-NoCompile.ensures in
    let fault = rw c.in-Err-NoCompile.field-0-is at e.fault in
    on_ok c.answer.result (none_says setting c.args.self.now.steps c.step.new.self (g.E.Engine.ran c.args.engine.now) (g.E.Engine.ran c.step.new.engine) _ _ c.args.number fault.0 fault.1 e.unchanged _ c.no_compile_reply.ensures)
    c.answer.ensures.ok

pub returns-in-Err-NoCompile-clause-err : goal.returns-in-Err-NoCompile-clause-err
returns-in-Err-NoCompile-clause-err g c =
    let setting = hostless g.R.Reader.reads g.E.Engine.body in
    let e = c.in-Err-NoCompile.ensures in
    let fault = rw c.in-Err-NoCompile.field-0-is at e.fault in
    if_err c.answer.result (none_stops setting c.args.self.now.steps c.step.new.self (g.E.Engine.ran c.args.engine.now) (g.E.Engine.ran c.step.new.engine) _ _ c.args.number fault.0 fault.1 e.unchanged _ c.no_compile_reply.ensures)
    c.answer.ensures.err

pub returns-in-Err-Memory-clause-ok : goal.returns-in-Err-Memory-clause-ok
returns-in-Err-Memory-clause-ok g c =
    let setting = hostless g.R.Reader.reads g.E.Engine.body in
    let e = c.in-Err-Memory.ensures in
    let fault = rw c.in-Err-Memory.field-0-is at e.fault in
    on_ok c.answer-in-Err-Memory.result (no_step_says setting c.args.self.now.steps c.step.new.self (g.E.Engine.ran c.args.engine.now) (g.E.Engine.ran c.step.new.engine) _ _ c.args.number fault.0 fault.1 e.unchanged _ c.memory_reply.ensures)
    c.answer-in-Err-Memory.ensures.ok

pub returns-in-Err-Memory-clause-err : goal.returns-in-Err-Memory-clause-err
returns-in-Err-Memory-clause-err g c =
    let setting = hostless g.R.Reader.reads g.E.Engine.body in
    let e = c.in-Err-Memory.ensures in
    let fault = rw c.in-Err-Memory.field-0-is at e.fault in
    if_err c.answer-in-Err-Memory.result (no_step_stops setting c.args.self.now.steps c.step.new.self (g.E.Engine.ran c.args.engine.now) (g.E.Engine.ran c.step.new.engine) _ _ c.args.number fault.0 fault.1 e.unchanged _ c.memory_reply.ensures)
    c.answer-in-Err-Memory.ensures.err
