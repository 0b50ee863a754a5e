use Rattle.sw_eval_questions.proofs.Heard.{failed}
use Rattle.sw_eval_state.proofs.faults.fails.Goals as goal

pub returns : goal.returns
returns g c = λ s. failed _ _ s c.fails.ensures
