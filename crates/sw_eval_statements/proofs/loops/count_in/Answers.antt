use Rattle.sw_eval_statements.specs.Loops.{count_in}
use Rattle.sw_eval_questions.proofs.Steps.{did_err, did_then}
use Rattle.sw_eval_statements.proofs.loops.count_in.Goals as goal

pub returns-in_err-numbers : goal.returns-in_err-numbers
unfolding count_in
returns-in_err-numbers g c = did_err _ c.in_err-numbers.ensures c.from_residual.ensures

pub returns : goal.returns
unfolding count_in
returns g c = did_then _ c.in_ok-numbers.ensures c.count_over.ensures
