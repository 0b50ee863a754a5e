use Rattle.sw_step_bodies.proofs.Reaching.{few_pairs}
use Rattle.sw_step_bodies.proofs.body.Innermost.reach.Goals as goal

pub returns-clause-few : goal.returns-clause-few
returns-clause-few g c = few_pairs g.E.Engine.body g.E.Engine.progress c.self.inside.work c.reach-place.result.0 g.met.E.Engine.ends_in_time c.reach-place.ensures.is_place
