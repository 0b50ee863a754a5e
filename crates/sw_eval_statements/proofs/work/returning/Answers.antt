use Rattle.sw_eval_statements.specs.Statements.{returning}
use Rattle.sw_eval_questions.proofs.Steps.{did_value, did_err, did_then, no_memory}
use Rattle.sw_eval_statements.proofs.work.returning.Goals as goal

pub returns-in_err-value : goal.returns-in_err-value
unfolding returning
returns-in_err-value g c = did_err _ (rw c.outside.ensures at c.in_err-value.ensures) c.from_residual.ensures

pub returns-in_err-shared : goal.returns-in_err-shared
unfolding returning
returns-in_err-shared g c =
    did_then _ (rw c.outside.ensures at c.in_ok-value.ensures) (no_memory _ _ _ _ _ c.from_residual-in_err-shared.ensures)

pub returns : goal.returns
unfolding returning
returns g c =
    did_then _ (rw c.outside.ensures at c.in_ok-value.ensures) (rw c.in_ok-shared.ensures (did_value _ _ _ _))
