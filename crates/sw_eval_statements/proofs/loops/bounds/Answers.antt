use Rattle.sw_eval_statements.specs.Loops.{bounds}
use Rattle.sw_eval_questions.proofs.Steps.{did_err, did_then}
use Rattle.sw_eval_questions.proofs.Refusals.{did_stopped}
use Rattle.sw_eval_statements.proofs.loops.bounds.Goals as goal

pub returns-in_err-from : goal.returns-in_err-from
unfolding bounds
returns-in_err-from g c = did_err _ (rw (c.get-bounds.ensures, c.outside.ensures) at c.in_err-from.ensures) c.from_residual.ensures

pub returns-in_err-to : goal.returns-in_err-to
unfolding bounds
returns-in_err-to g c =
    did_then _ (rw (c.get-bounds.ensures, c.outside.ensures) at c.in_ok-from.ensures) (did_err _ (rw (c.get-bounds.ensures, c.outside-2.ensures) at c.in_err-to.ensures) c.from_residual-in_err-to.ensures)

pub returns : goal.returns
unfolding bounds
returns g c =
    did_then _ (rw (c.get-bounds.ensures, c.outside.ensures) at c.in_ok-from.ensures) (did_then _ (rw (c.get-bounds.ensures, c.outside-2.ensures) at c.in_ok-to.ensures) (did_stopped _ _ _ c.plain_value-2.new.walk.state _ _ (rw c.get-bounds.ensures at c.between.ensures) c.stopped.ensures))
