use Rattle.sw_step_bodies.proofs.Places.{few_at}
use Rattle.sw_step_bodies.proofs.body.Innermost.loads.Goals as goal

pub returns-clause-few : goal.returns-clause-few
returns-clause-few g c = few_at g.E.Engine.body g.E.Engine.progress c.self.inside.work c.self.inside.place g.met.E.Engine.ends_in_time c.self.invariant
