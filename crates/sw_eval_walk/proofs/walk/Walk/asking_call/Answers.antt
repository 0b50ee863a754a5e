use Rattle.sw_eval_questions.proofs.Steps.{did_value, did_err, did_then}
use Rattle.sw_eval_questions.proofs.Refusals.{did_stopped}
use Rattle.sw_eval_walk.proofs.walk.Walk.asking_call.Goals as goal

pub returns-in_err-arguments : goal.returns-in_err-arguments
returns-in_err-arguments g c =
    did_err _ (did_stopped _ _ _ c.args.self.now.state _ _ c.built_in_arguments.ensures c.in_err-arguments.ensures) c.from_residual.ensures

pub returns-in_err-holds : goal.returns-in_err-holds
returns-in_err-holds g c =
    did_then _ (did_stopped _ _ _ c.args.self.now.state _ _ c.built_in_arguments.ensures c.in_ok-arguments.ensures) (did_err _ (rw c.as_slice.ensures at c.in_err-holds.ensures) c.from_residual-in_err-holds.ensures)

pub returns : goal.returns
returns g c =
    did_then _ (did_stopped _ _ _ c.args.self.now.state _ _ c.built_in_arguments.ensures c.in_ok-arguments.ensures) (did_then _ (rw c.as_slice.ensures at c.in_ok-holds.ensures) (rw c.truth.ensures (did_value _ _ _ _)))
