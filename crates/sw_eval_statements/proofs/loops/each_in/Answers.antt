use Rattle.sw_eval_statements.specs.Loops.{each_in}
use Rattle.sw_eval_questions.proofs.Steps.{did_err, did_then}
use Rattle.sw_eval_statements.proofs.loops.each_in.Goals as goal

pub returns-in_err-elements : goal.returns-in_err-elements
unfolding each_in
returns-in_err-elements g c = did_err _ c.in_err-elements.ensures c.from_residual.ensures

pub returns : goal.returns
unfolding each_in
returns g c = did_then _ c.in_ok-elements.ensures (rw c.as_slice.ensures at c.each_over.ensures)
