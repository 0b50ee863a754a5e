use Rattle.std.proofs.Common.{sym, ◌∙◌}
use Rattle.sw_step_bodies.proofs.Places.{give_inner}
use Rattle.sw_step_bodies.proofs.body.Innermost.give.Goals as goal

pub invariant_of-self : goal.invariant_of-self
invariant_of-self g c =
    give_inner g.E.Engine.body g.E.Engine.progress c.self.inside.work c.self.inside.place c.in-Asking.body c.give.new.running c.in-Asking.field-1 c.args.self.now c.args.answer c.self.invariant
    (sym c.replace-place.ensures.value ∙ c.in-Asking.is) c.self.view_is c.requires c.give.ensures
