use Rattle.std.proofs.Common.{◌≡◌, ℕ, List, subst}
use Rattle.sw_modules.specs.Settings.{hostless}
use Rattle.sw_step.specs.Joint.{started}
use Rattle.sw_cmd_protocol.proofs.Fronts.{on_ok, if_err}
use Rattle.sw_cmd_steps.proofs.Saying.{start_says, start_stops, no_start_says, no_start_stops}
use Rattle.sw_cmd_steps.proofs.stepping.Stepping.start.Goals as goal

pub returns-in-Ok-clause-ok : goal.returns-in-Ok-clause-ok
returns-in-Ok-clause-ok g c =
    let setting = hostless g.R.Reader.reads g.E.Engine.body in
    let began = subst (λ (p : List (List ℕ)). c.start.new.self ≡ started setting c.args.entry.now p c.args.self.now.steps) c.as_slice.ensures c.in-Ok.ensures.ok in
    on_ok c.send_started.result (λ a ran. start_says setting c.args.self.now.steps c.start.new.self ran _ _ c.args.entry.now c.args.paths.now c.in-Ok.number c.in-Ok.ensures.number began a)
    c.send_started.ensures.ok

pub returns-in-Ok-clause-err : goal.returns-in-Ok-clause-err
returns-in-Ok-clause-err g c =
    let setting = hostless g.R.Reader.reads g.E.Engine.body in
    let began = subst (λ (p : List (List ℕ)). c.start.new.self ≡ started setting c.args.entry.now p c.args.self.now.steps) c.as_slice.ensures c.in-Ok.ensures.ok in
    if_err c.send_started.result (λ stop s ran. start_stops setting c.args.self.now.steps c.start.new.self ran _ _ c.args.entry.now c.args.paths.now c.in-Ok.number c.in-Ok.ensures.number began stop s)
    c.send_started.ensures.err

pub returns-in-Err-NoNumber-clause-ok : goal.returns-in-Err-NoNumber-clause-ok
returns-in-Err-NoNumber-clause-ok g c =
    on_ok c.answer.result (λ a ran. no_start_says (hostless g.R.Reader.reads g.E.Engine.body) c.args.self.now.steps c.start.new.self ran _ _ c.args.entry.now c.args.paths.now c.in-Err-NoNumber.ensures.unchanged _
    c.memory_reply.ensures a) c.answer.ensures.ok

pub returns-in-Err-NoNumber-clause-err : goal.returns-in-Err-NoNumber-clause-err
returns-in-Err-NoNumber-clause-err g c =
    if_err c.answer.result (λ stop s ran. no_start_stops (hostless g.R.Reader.reads g.E.Engine.body) c.args.self.now.steps c.start.new.self ran _ _ c.args.entry.now c.args.paths.now c.in-Err-NoNumber.ensures.unchanged _
    c.memory_reply.ensures stop s) c.answer.ensures.err
