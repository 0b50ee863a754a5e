use Rattle.sw_eval_statements.specs.Styles.{property}
use Rattle.sw_eval_questions.proofs.Steps.{did_value, did_err, did_then, no_memory}
use Rattle.sw_eval_statements.proofs.styles.property.Goals as goal

pub returns-in_err-name : goal.returns-in_err-name
unfolding property
returns-in_err-name g c = did_err _ c.in_err-name.ensures c.from_residual.ensures

pub returns-in_err-full_name : goal.returns-in_err-full_name
unfolding property
returns-in_err-full_name g c = did_then _ c.in_ok-name.ensures (no_memory _ _ _ _ _ c.from_residual-in_err-full_name.ensures)

pub returns : goal.returns
unfolding property
returns g c = did_then _ c.in_ok-name.ensures (rw c.in_ok-full_name.ensures (did_value _ _ _ _))
