use Rattle.sw_eval_state.specs.Output.{written}
use Rattle.sw_eval_questions.proofs.Steps.{plain_then}
use Rattle.sw_eval_questions.proofs.Refusals.{plain_refused, plain_answer}
use Rattle.sw_eval_state.proofs.state.State.written.Goals as goal

pub returns-in_err-text : goal.returns-in_err-text
unfolding written
returns-in_err-text c = plain_refused _ _ _ _ c.args.self.now _ c.in_err-text.ensures c.from_residual.ensures

pub returns : goal.returns
unfolding written
returns c = plain_then _ _ _ _ c.args.self.now _ (plain_answer _ _ c.args.self.now c.in_ok-text.ensures) c.declaring_by.ensures
