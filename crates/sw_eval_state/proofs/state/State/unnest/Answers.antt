use Rattle.sw_eval_state.proofs.Outer.{unnested_some, unnested_none}
use Rattle.sw_eval_state.proofs.state.State.unnest.Goals as goal

pub returns-in-Some : goal.returns-in-Some
returns-in-Some c = unnested_some c.args.self.now _ _ c.in-Some.ensures

pub returns-in_default : goal.returns-in_default
returns-in_default c = rw c.in_default.ensures.1 (unnested_none c.args.self.now c.in_default.ensures.0)
