use Rattle.std.proofs.Common.{subst, sym}
use Rattle.sw_world.specs.declared.answer.Answer.{Answer}
use Rattle.sw_rows_bodies.specs.Ready.{AnswersLoads}
use Rattle.sw_rows_bodies.proofs.Given.{can_give, given_ready}
use Rattle.sw_rows_bodies.proofs.bodies.give_to.Goals as goal

pub give-requires-clause-waits : goal.give-requires-clause-waits
give-requires-clause-waits g c =
    let is = subst (λ (a : Answer). AnswersLoads a) (sym c.in_ok-answer.ensures) c.requires.answers in
    can_give g.E.Engine.body (g.E.Engine.progress c.args.body.now) c.requires.stopped.0 c.in_ok-answer.answer c.requires.stopped.1 is

pub returns : goal.returns
returns g c =
    let is = subst (λ (a : Answer). AnswersLoads a) (sym c.in_ok-answer.ensures) c.requires.answers in
    given_ready g.E.Engine.body (g.E.Engine.progress c.args.body.now) (g.E.Engine.progress c.give.new.running) c.in_ok-answer.answer c.requires.stopped.1.is_body is c.give.ensures
