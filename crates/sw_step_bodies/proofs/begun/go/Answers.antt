use Rattle.std.proofs.Common.{◌≡◌, IfOk, OnErr, ap, subst, ◌∙◌}
use Rattle.sw_modules.specs.State.{State}
use Rattle.sw_modules.specs.Settings.{hostless}
use Rattle.sw_step_bodies.specs.Standing.{Moment, left_at}
use Rattle.sw_step_bodies.specs.Moves.{Comes, moment_of}
use Rattle.sw_step_bodies.specs.Under.{over_folder}
use Rattle.sw_step_bodies.proofs.Nexts.{did_go, went_ran}
use Rattle.sw_step_bodies.proofs.begun.go.Goals as goal

pub returns-clause-went : goal.returns-clause-went
returns-clause-went g c =
    let folder = c.args.folder.now in
    let now : Moment = moment_of c.run-came.new.self.live c.run-came.new.self.waiting.items c.run-came.new.self.innermost c.run-came.new.self.times.items in
    let from : moment_of c.resume.result c.begun.inside.waiting.items c.begun.inside.innermost c.begun.inside.times.items ≡ over_folder folder c.args.begun =
    ap (λ (s : State). moment_of s c.begun.inside.waiting.items c.begun.inside.innermost c.begun.inside.times.items) c.resume.ensures ∙ ap (over_folder folder) c.begun.view_is in
    did_go (hostless g.R.Reader.reads g.E.Engine.body) folder c.args.begun now c.run-came.result c.went.result.0 c.went.result.1
    (c.run-came.ensures.folder ∙ ap (λ (s : State). s.folder) c.resume.ensures) c.went.ensures
    (subst (λ (m : Moment). IfOk c.run-came.result (λ came. Comes (hostless g.R.Reader.reads g.E.Engine.body) came m now)) from c.run-came.ensures.came)
    (subst (λ (m : Moment). OnErr c.run-came.result (left_at (hostless g.R.Reader.reads g.E.Engine.body) now ≡ left_at (hostless g.R.Reader.reads g.E.Engine.body) m)) from c.run-came.ensures.stays)

pub returns-clause-ran : goal.returns-clause-ran
returns-clause-ran g c =
    let now : Moment = moment_of c.run-came.new.self.live c.run-came.new.self.waiting.items c.run-came.new.self.innermost c.run-came.new.self.times.items in
    went_ran c.run-came.result now c.went.result.0 c.went.result.1 c.went.ensures (g.E.Engine.ran c.args.engine.now)
    (g.E.Engine.ran c.run-came.new.engine) c.run-came.ensures.ran
