use Rattle.sw_eval_state.specs.Selecting.{parent}
use Rattle.sw_eval_state.proofs.Answering.{plain_stopped}
use Rattle.sw_eval_state.proofs.state.State.parent.Goals as goal

pub returns : goal.returns
unfolding parent
returns c = plain_stopped _ _ _ c.args.self.now c.parent_by.ensures c.stopped.ensures
