use Rattle.sw_eval_expressions.specs.Expressions.{chain}
use Rattle.sw_eval_questions.proofs.Steps.{did_value, did_err, did_then, no_memory}
use Rattle.sw_eval_expressions.proofs.value.chain.Goals as goal

pub returns-in_err-value : goal.returns-in_err-value
unfolding chain
returns-in_err-value g c =
    did_err _ (rw c.deeper.ensures at c.in_err-value.ensures) c.from_residual.ensures

pub returns-in_err-left : goal.returns-in_err-left
unfolding chain
returns-in_err-left g c =
    did_then _ (rw c.deeper.ensures at c.in_ok-value.ensures) (no_memory _ c.value_of.new.walk.state _ _ _ c.from_residual-in_err-left.ensures)

pub returns-in_err-links : goal.returns-in_err-links
unfolding chain
returns-in_err-links g c =
    did_then _ (rw c.deeper.ensures at c.in_ok-value.ensures) (did_err _ (rw c.in_ok-left.ensures at c.in_err-links.ensures) c.from_residual-in_err-links.ensures)

pub returns : goal.returns
unfolding chain
returns g c =
    did_then _ (rw c.deeper.ensures at c.in_ok-value.ensures) (did_then _ (rw c.in_ok-left.ensures at c.in_ok-links.ensures) (did_value _ _ _ _))
