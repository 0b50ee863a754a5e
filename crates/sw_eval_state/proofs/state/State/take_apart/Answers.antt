use Rattle.sw_eval_state.specs.Loop_variables.{apart}
use Rattle.sw_eval_questions.proofs.Steps.{plain_then}
use Rattle.sw_eval_questions.proofs.Refusals.{plain_refused, plain_answer}
use Rattle.sw_eval_state.proofs.state.State.take_apart.Goals as goal

pub returns-in_err-values : goal.returns-in_err-values
unfolding apart
returns-in_err-values c = plain_refused _ _ _ _ c.args.self.now _ c.in_err-values.ensures c.from_residual.ensures

pub returns : goal.returns
unfolding apart
returns c = plain_then _ _ _ _ c.args.self.now _ (plain_answer _ _ c.args.self.now c.in_ok-values.ensures) (rw c.as_slice.ensures at c.set_all.ensures)
