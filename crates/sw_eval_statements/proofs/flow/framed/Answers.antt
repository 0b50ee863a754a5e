use Rattle.sw_eval_statements.specs.Flow.{framed}
use Rattle.sw_eval_questions.proofs.Steps.{no_memory_by, gives_state, did_value, did_err, did_then}
use Rattle.sw_eval_statements.proofs.flow.framed.Goals as goal

pub returns-in_err-enter : goal.returns-in_err-enter
returns-in_err-enter g c = no_memory_by _ _ _ _ _ _ _ _ c.in_err-enter.ensures c.from_residual.ensures

pub returns-in_err-value : goal.returns-in_err-value
unfolding framed
returns-in_err-value g c =
    rw (gives_state c.in_ok-enter.ensures) (did_err _ c.in_err-value.ensures c.from_residual-in_err-value.ensures)

pub returns : goal.returns
unfolding framed
returns g c =
    rw (gives_state c.in_ok-enter.ensures) (did_then _ c.in_ok-value.ensures (rw c.leave.ensures (did_value _ _ _ _)))
