use Rattle.sw_eval_state.specs.AtRules.{media_queries}
use Rattle.sw_eval_state.proofs.state.State.media_queries.Goals as goal

pub returns : goal.returns
unfolding media_queries
returns c = c.queries_by.ensures _ c.args.self.now c.media_by.ensures
