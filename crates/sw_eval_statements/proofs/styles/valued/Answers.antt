use Rattle.sw_eval_statements.specs.Styles.{valued}
use Rattle.sw_eval_questions.proofs.Steps.{did_err, did_then, did_plain, no_memory}
use Rattle.sw_eval_statements.proofs.styles.valued.Goals as goal

pub returns-in_err-value : goal.returns-in_err-value
unfolding valued
returns-in_err-value g c = did_err _ (rw c.outside.ensures at c.in_err-value.ensures) c.from_residual.ensures

pub returns-in_err-name : goal.returns-in_err-name
unfolding valued
returns-in_err-name g c =
    did_then _ (rw c.outside.ensures at c.in_ok-value.ensures) (no_memory _ c.value_of.new.walk.state _ _ _ c.from_residual-in_err-name.ensures)

pub returns : goal.returns
unfolding valued
returns g c = did_then _ (rw c.outside.ensures at c.in_ok-value.ensures) (did_plain _ _ _ _ _ (rw c.in_ok-name.ensures at c.written.ensures))
