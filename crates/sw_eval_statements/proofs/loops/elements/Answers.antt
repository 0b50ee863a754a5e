use Rattle.sw_eval_statements.specs.Loops.{elements}
use Rattle.sw_eval_questions.proofs.Steps.{did_value, did_err, did_then, no_memory}
use Rattle.sw_eval_statements.proofs.loops.elements.Goals as goal

pub returns-in_err-list : goal.returns-in_err-list
unfolding elements
returns-in_err-list g c = did_err _ (rw c.outside.ensures at c.in_err-list.ensures) c.from_residual.ensures

pub returns-in_err-items : goal.returns-in_err-items
unfolding elements
returns-in_err-items g c =
    did_then _ (rw c.outside.ensures at c.in_ok-list.ensures) (no_memory _ c.value_of.new.walk.state _ _ _ c.from_residual-in_err-items.ensures)

pub returns : goal.returns
unfolding elements
returns g c = did_then _ (rw c.outside.ensures at c.in_ok-list.ensures) (rw c.in_ok-items.ensures (did_value _ _ _ _))
