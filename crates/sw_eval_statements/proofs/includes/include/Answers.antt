use Rattle.sw_eval_statements.specs.Includes.{include, included}
use Rattle.sw_eval_questions.proofs.Steps.{did_err, did_then, did_plain}
use Rattle.sw_eval_statements.proofs.includes.include.Goals as goal

pub returns-in_err-found : goal.returns-in_err-found
unfolding include
returns-in_err-found g c = did_err _ c.in_err-found.ensures c.from_residual.ensures

pub returns-in_err-passed : goal.returns-in_err-passed
unfolding include included
returns-in_err-passed g c =
    did_then _ c.in_ok-found.ensures (did_err _ (rw (c.as_slice-arguments.ensures, c.outside.ensures) at c.in_err-passed.ensures) c.from_residual-in_err-passed.ensures)

pub returns-in_err-entry : goal.returns-in_err-entry
unfolding include included
returns-in_err-entry g c =
    did_then _ c.in_ok-found.ensures (did_then _ (rw (c.as_slice-arguments.ensures, c.outside.ensures) at c.in_ok-passed.ensures) (did_err _ (did_plain _ _ _ _ _ c.in_err-entry.ensures) c.from_residual-in_err-entry.ensures))

pub returns : goal.returns
unfolding include included
returns g c =
    did_then _ c.in_ok-found.ensures (did_then _ (rw (c.as_slice-arguments.ensures, c.outside.ensures) at c.in_ok-passed.ensures) (did_then _ (did_plain _ _ _ _ _ c.in_ok-entry.ensures) (rw (c.as_slice.ensures, c.as_slice-2.ensures, c.get-callable.ensures) at c.enter.ensures)))
