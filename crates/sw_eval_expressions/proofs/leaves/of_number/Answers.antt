use Rattle.sw_eval_state.proofs.Answering.{plain_stopped}
use Rattle.sw_eval_expressions.proofs.leaves.of_number.Goals as goal

pub returns : goal.returns
returns c = λ s. plain_stopped _ _ _ s c.number_value.ensures c.stopped.ensures
