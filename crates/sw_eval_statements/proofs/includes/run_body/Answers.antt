use Rattle.sw_eval_statements.specs.Includes.{run_body}
use Rattle.sw_eval_questions.proofs.Steps.{no_memory_by, gives_state, did_value, did_err, did_then, did_plain}
use Rattle.sw_eval_statements.proofs.includes.run_body.Goals as goal

pub returns-in_err-spend : goal.returns-in_err-spend
unfolding run_body
returns-in_err-spend g c =
    did_err _ (did_plain _ _ _ _ _ c.in_err-spend.ensures) c.from_residual.ensures

pub returns-in_err-open : goal.returns-in_err-open
unfolding run_body
returns-in_err-open g c =
    did_then _ (did_plain _ _ _ _ _ c.in_ok-spend.ensures) (no_memory_by _ _ _ _ _ _ _ _ c.in_err-open.ensures c.from_residual-in_err-open.ensures)

pub returns-in_err-fill : goal.returns-in_err-fill
unfolding run_body
returns-in_err-fill g c =
    did_then _ (did_plain _ _ _ _ _ c.in_ok-spend.ensures) (rw (gives_state c.in_ok-open.ensures) (did_err _ (rw c.as_slice.ensures at c.in_err-fill.ensures) c.from_residual-in_err-fill.ensures))

pub returns-in_err-value : goal.returns-in_err-value
unfolding run_body
returns-in_err-value g c =
    did_then _ (did_plain _ _ _ _ _ c.in_ok-spend.ensures) (rw (gives_state c.in_ok-open.ensures) (did_then _ (rw c.as_slice.ensures at c.in_ok-fill.ensures) (did_err _ c.in_err-value.ensures c.from_residual-in_err-value.ensures)))

pub returns : goal.returns
unfolding run_body
returns g c =
    did_then _ (did_plain _ _ _ _ _ c.in_ok-spend.ensures) (rw (gives_state c.in_ok-open.ensures) (did_then _ (rw c.as_slice.ensures at c.in_ok-fill.ensures) (did_then _ c.in_ok-value.ensures (rw c.close.ensures (did_value _ _ _ _)))))
