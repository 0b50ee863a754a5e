use Rattle.sw_eval_statements.specs.Flow.{holds}
use Rattle.sw_eval_questions.proofs.Steps.{did_value, did_err, did_then}
use Rattle.sw_eval_statements.proofs.flow.holds.Goals as goal

pub returns-in_err-test : goal.returns-in_err-test
unfolding holds
returns-in_err-test g c = did_err _ (rw c.outside.ensures at c.in_err-test.ensures) c.from_residual.ensures

pub returns : goal.returns
unfolding holds
returns g c = rw c.truth.ensures (did_then _ (rw c.outside.ensures at c.in_ok-test.ensures) (did_value _ _ _ _))
