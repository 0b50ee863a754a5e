use Rattle.sw_eval_walk.specs.Variables.{targeted}
use Rattle.sw_eval_questions.proofs.Steps.{no_memory, did_err, did_then, did_plain}
use Rattle.sw_eval_walk.proofs.walk.Walk.targeted.Goals as goal

pub returns-then-is_private : goal.returns-then-is_private
unfolding targeted
returns-then-is_private g c = rw (← c.is_private.ensures, c.if-is_private.true) (did_plain _ c.args.self.now.state _ _ _ (c.fails.ensures c.args.self.now.state))

pub returns-in_err-space : goal.returns-in_err-space
returns-in_err-space g c = no_memory _ c.args.self.now.state _ _ _ c.from_residual.ensures

pub returns-in_err-a : goal.returns-in_err-a
unfolding targeted
returns-in_err-a g c = rw (← c.is_private.ensures, c.if-is_private.false, ← c.in_ok-space.ensures) (did_err _ c.in_err-a.ensures.did c.from_residual-in_err-a.ensures)

pub returns : goal.returns
unfolding targeted
returns g c = rw (← c.is_private.ensures, c.if-is_private.false, ← c.in_ok-space.ensures) (did_then _ c.in_ok-a.ensures.did (did_plain _ _ _ _ _ (c.target.ensures c.find.new.self.state)))
