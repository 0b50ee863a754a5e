use Rattle.sw_eval_questions.proofs.Steps.{no_memory}
use Rattle.sw_eval_questions.proofs.Refusals.{did_stopped}
use Rattle.sw_eval_walk.proofs.BuiltInCalls.{not_asked}
use Rattle.sw_eval_walk.proofs.walk.Walk.built_in_called.Goals as goal

pub returns-in_err-passed-in-Asked : goal.returns-in_err-passed-in-Asked
returns-in_err-passed-in-Asked g c = no_memory _ c.args.self.now.state _ _ _ c.from_residual.ensures

pub returns-in_ok-passed-in-Asked : goal.returns-in_ok-passed-in-Asked
returns-in_ok-passed-in-Asked g c = rw c.in-Asked.is (rw c.in_ok-passed-in-Asked.ensures at c.asking_call.ensures)

pub returns-in_default : goal.returns-in_default
returns-in_default g c =
    rw (← not_asked c.args.function c.args.arguments.now c.args.values.now c.args.span.now c.args.self.now.state c.in_default.not-Asked) (did_stopped _ _ _ c.args.self.now.state _ _ c.built_in_call.ensures c.stopped.ensures)
