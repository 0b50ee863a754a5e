use Rattle.sw_eval_statements.specs.Includes.{content_run}
use Rattle.sw_eval_questions.proofs.Steps.{did_err, did_then}
use Rattle.sw_eval_questions.proofs.Refusals.{did_stopped}
use Rattle.sw_eval_statements.proofs.includes.content_run.Goals as goal

pub returns-in_err-passed : goal.returns-in_err-passed
unfolding content_run
returns-in_err-passed g c =
    did_err _ (rw c.outside.ensures at c.in_err-passed.ensures) c.from_residual.ensures

pub returns-in_err-entry : goal.returns-in_err-entry
unfolding content_run
returns-in_err-entry g c =
    did_then _ (rw c.outside.ensures at c.in_ok-passed.ensures) (did_err _ (did_stopped _ _ _ c.arguments_of.new.walk.state _ _ c.block_entry.ensures c.in_err-entry.ensures) c.from_residual-in_err-entry.ensures)

pub returns : goal.returns
unfolding content_run
returns g c =
    did_then _ (rw c.outside.ensures at c.in_ok-passed.ensures) (did_then _ (did_stopped _ _ _ c.arguments_of.new.walk.state _ _ c.block_entry.ensures c.in_ok-entry.ensures) (rw (c.as_slice.ensures, c.as_slice-2.ensures, c.get-content.ensures) at c.enter.ensures))
