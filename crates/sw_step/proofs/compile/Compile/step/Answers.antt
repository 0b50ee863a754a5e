use Rattle.std.proofs.Common.{◌≡◌, ℕ, List, [], ◌∷◌, Option, Result, IfOk, sym, ap, subst, ◌∙◌}
use Rattle.sw_text.specs.declared.fault.Fault.{Fault}
use Rattle.sw_world.specs.declared.question.Saying.{Saying}
use Rattle.sw_record.specs.declared.reply.Outcome.TheVariants.{Error}
use Rattle.sw_modules.specs.Settings.{hostless}
use Rattle.sw_step_bodies.specs.declared.stepped.StepReply.{StepReply}
use Rattle.sw_step_bodies.specs.Stepping.{Ended}
use Rattle.sw_step_bodies.specs.Standing.{Moment}
use Rattle.sw_step.specs.Joint.{UnderWay, IsReply}
use Rattle.sw_step_bodies.specs.Under.{IsBegun, left_of}
use Rattle.sw_step_bodies.specs.declared.stepped.Stepped.{Stepped}
use Rattle.sw_step.specs.Under.{IsStanding, IsNext, under_way_of}
use Rattle.sw_step.proofs.Nexts.{none_standing, ended_next, went_standing, went_next}
use Rattle.sw_step.proofs.compile.Compile.step.Goals as goal

pub invariant_of-self-in-Err : goal.invariant_of-self-in-Err
invariant_of-self-in-Err g c =
    subst (λ (m : Option Moment). IsStanding (hostless g.R.Reader.reads g.E.Engine.body) c.self.inside.start m) (sym c.take-begun.ensures.after)
    (none_standing (hostless g.R.Reader.reads g.E.Engine.body) c.self.inside.start)

pub invariant_of-self-in-Ok : goal.invariant_of-self-in-Ok
invariant_of-self-in-Ok g c =
    let begun = subst (λ (r : Result Moment Fault). IsBegun (hostless g.R.Reader.reads g.E.Engine.body) c.self.inside.start c.take-begun.result r) c.in-Ok.is c.in_ok-fault.ensures.ok in
    went_standing (hostless g.R.Reader.reads g.E.Engine.body) c.self.inside.start c.self.inside.begun c.in-Ok.begun c.self.invariant
    (begun ∙ ap (left_of (hostless g.R.Reader.reads g.E.Engine.body) c.self.inside.start) c.take-begun.ensures.value)
    c.go-begun.result.0 c.go-begun.result.1 c.go-begun.ensures.went

pub returns-in-Ok-clause-next : goal.returns-in-Ok-clause-next
returns-in-Ok-clause-next g c =
    let begun = subst (λ (r : Result Moment Fault). IsBegun (hostless g.R.Reader.reads g.E.Engine.body) c.self.inside.start c.take-begun.result r) c.in-Ok.is c.in_ok-fault.ensures.ok in
    subst (λ (u : UnderWay). IfOk c.go-begun.result.1 (λ (stepped : Stepped). IsNext (hostless g.R.Reader.reads g.E.Engine.body) u stepped (under_way_of (hostless g.R.Reader.reads g.E.Engine.body) c.self.inside.start c.go-begun.result.0))) c.self.view_is
    (went_next (hostless g.R.Reader.reads g.E.Engine.body) c.self.inside.start c.self.inside.begun c.in-Ok.begun c.self.invariant
    (begun ∙ ap (left_of (hostless g.R.Reader.reads g.E.Engine.body) c.self.inside.start) c.take-begun.ensures.value)
    c.go-begun.result.0 c.go-begun.result.1 c.go-begun.ensures.went)

pub returns-in-Err-clause-next : goal.returns-in-Err-clause-next
returns-in-Err-clause-next g c =
    let begun = subst (λ (r : Result Moment Fault). IsBegun (hostless g.R.Reader.reads g.E.Engine.body) c.self.inside.start c.take-begun.result r) c.in-Err.is c.in_ok-fault.ensures.ok in
    let reply : StepReply = record { says = c.new.result; times = c.new-in-Err.result; outcome = Error c.in-Err.fault } in
    let left : left_of (hostless g.R.Reader.reads g.E.Engine.body) c.self.inside.start c.self.inside.begun ≡ record { steps = []; reply = reply } =
    ap (left_of (hostless g.R.Reader.reads g.E.Engine.body) c.self.inside.start) (sym c.take-begun.ensures.value) ∙ begun
    ∙ ap (λ (says : List Saying). record { steps = []; reply = record { says = says; times = []; outcome = Error c.in-Err.fault } }) (sym c.new.ensures)
    ∙ ap (λ (times : List (List ℕ × ℕ)). record { steps = []; reply = record { says = c.new.result; times = times; outcome = Error c.in-Err.fault } }) (sym c.new-in-Err.ensures) in
    subst (λ (u : UnderWay). (u.left ≡ Ended ∷ []) × IsReply (hostless g.R.Reader.reads g.E.Engine.body) u reply) c.self.view_is
    (ended_next (hostless g.R.Reader.reads g.E.Engine.body) c.self.inside.start c.self.inside.begun c.self.invariant reply c.args.self.now left)
