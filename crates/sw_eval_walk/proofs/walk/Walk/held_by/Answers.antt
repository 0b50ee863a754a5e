use Rattle.sw_eval_questions.proofs.Steps.{did_err, did_then, did_plain}
use Rattle.sw_eval_questions.proofs.Refusals.{did_stopped}
use Rattle.sw_eval_walk.proofs.Held.{not_built_in}
use Rattle.sw_eval_walk.proofs.walk.Walk.held_by.Goals as goal

pub returns-in-BuiltIn : goal.returns-in-BuiltIn
returns-in-BuiltIn g c = rw c.in-BuiltIn.is (did_stopped _ _ _ c.args.self.now.state _ _ c.built_in_variable.ensures c.stopped.ensures)

pub returns-in_err-number-in_default : goal.returns-in_err-number-in_default
returns-in_err-number-in_default g c =
    rw (← not_built_in c.args.unknown c.args.span.now c.args.space_span.now c.args.number c.args.answer.now c.args.self.now.state c.in_default.not-BuiltIn)
    (did_err _ (did_plain _ c.args.self.now.state _ _ _ (c.in_err-number-in_default.ensures c.args.self.now.state)) c.from_residual.ensures)

pub returns-in_ok-number-in_default : goal.returns-in_ok-number-in_default
returns-in_ok-number-in_default g c =
    rw (← not_built_in c.args.unknown c.args.span.now c.args.space_span.now c.args.number c.args.answer.now c.args.self.now.state c.in_default.not-BuiltIn)
    (did_then _ (did_plain _ c.args.self.now.state _ _ _ (c.in_ok-number-in_default.ensures c.args.self.now.state)) c.getting.ensures)
