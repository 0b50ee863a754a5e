use Rattle.std.proofs.Common.{◌+◌, refl, arith}
use Rattle.sw_step_bodies.proofs.Places.{waiting_few, resumed_inner}
use Rattle.sw_step_bodies.proofs.body.Waiting.resumed.Goals as goal

pub overflow_add-work : goal.overflow_add-work
overflow_add-work g c =
    let few = waiting_few g.E.Engine.body (g.E.Engine.progress c.self.inside.body) c.self.inside.work c.self.inside.op g.met.E.Engine.ends_in_time c.self.invariant in
    omega (arith, few)

pub invariant_of-result : goal.invariant_of-result
invariant_of-result g c =
    resumed_inner g.E.Engine.body g.E.Engine.progress c.self.inside.work
    (record { sheet = c.self.inside.work.sheet; config = c.self.inside.work.config; path = c.self.inside.work.path; loads = c.self.inside.work.loads + 1 })
    c.self.inside.body c.give.new.running c.self.inside.op c.args.self c.args.answer c.self.invariant c.self.view_is refl refl c.requires c.give.ensures
