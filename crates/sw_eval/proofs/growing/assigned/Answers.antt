use Rattle.sw_eval_questions.proofs.Steps.{plain_err}
use Rattle.sw_eval_state.proofs.Answering.{plain_stopped}
use Rattle.sw_eval.proofs.GivenUp.{assigned_last}
use Rattle.sw_eval.proofs.growing.assigned.Goals as goal

pub returns-in_err-value-clause-state : goal.returns-in_err-value-clause-state
returns-in_err-value-clause-state c made is =
    plain_err _ _ _ _ made _ (plain_stopped _ _ _ made c.into_plain_at.ensures c.in_err-value.ensures) c.from_residual.ensures

pub returns-clause-state : goal.returns-clause-state
returns-clause-state c made is =
    assigned_last made c.args.walk.now.state c.set_by.new.self c.args.one.now _ _ (plain_stopped _ _ _ made c.into_plain_at.ensures c.in_ok-value.ensures) is (rw c.in_ok-name.ensures at c.in_ok-set_by.ensures)
