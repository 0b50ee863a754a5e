use Rattle.sw_eval_walk.specs.Variables.{qualified}
use Rattle.sw_eval_questions.proofs.Steps.{no_memory, did_plain}
use Rattle.sw_eval_walk.proofs.walk.Walk.qualified.Goals as goal

pub returns-then-is_private : goal.returns-then-is_private
unfolding qualified
returns-then-is_private g c = rw (← c.is_private.ensures, c.if-is_private.true) (did_plain _ c.args.self.now.state _ _ _ (c.fails.ensures c.args.self.now.state))

pub returns-in_err-space : goal.returns-in_err-space
returns-in_err-space g c = no_memory _ c.args.self.now.state _ _ _ c.from_residual.ensures

pub returns : goal.returns
unfolding qualified
returns g c = rw (← c.is_private.ensures, c.if-is_private.false, ← c.in_ok-space.ensures) c.outside.ensures
