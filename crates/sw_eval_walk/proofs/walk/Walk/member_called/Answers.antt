use Rattle.sw_eval_walk.specs.Callees.{member_called}
use Rattle.sw_eval_questions.proofs.Steps.{no_memory, did_err, did_then, did_plain}
use Rattle.sw_eval_walk.proofs.walk.Walk.member_called.Goals as goal

pub returns-then-is_private : goal.returns-then-is_private
unfolding member_called
returns-then-is_private g c =
    rw (← c.is_private.ensures, c.if-is_private.true) (did_plain _ c.args.self.now.state _ _ _ (c.fails.ensures c.args.self.now.state))

pub returns-in_err-name : goal.returns-in_err-name
returns-in_err-name g c =
    no_memory _ c.args.self.now.state _ _ _ c.from_residual.ensures

pub returns-in_err-space_name : goal.returns-in_err-space_name
returns-in_err-space_name g c =
    no_memory _ c.args.self.now.state _ _ _ c.from_residual-in_err-space_name.ensures

pub returns-in_err-a : goal.returns-in_err-a
unfolding member_called
returns-in_err-a g c =
    rw (← c.is_private.ensures, c.if-is_private.false, ← rw c.as_str.ensures at c.in_ok-name.ensures, ← c.in_ok-space_name.ensures) (did_err _ c.in_err-a.ensures.did c.from_residual-in_err-a.ensures)

pub returns : goal.returns
unfolding member_called
returns g c =
    rw (← c.is_private.ensures, c.if-is_private.false, ← rw c.as_str.ensures at c.in_ok-name.ensures, ← c.in_ok-space_name.ensures) (did_then _ c.in_ok-a.ensures.did (did_plain _ c.find.new.self.state _ _ _ (c.member_by.ensures c.find.new.self.state)))
