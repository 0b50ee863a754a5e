use Rattle.sw_eval_statements.specs.Assignments.{assigned_default}
use Rattle.sw_eval_questions.proofs.Steps.{did_value, did_err, did_then}
use Rattle.sw_eval_statements.proofs.assignments.assigned_default.Goals as goal

pub returns-in_err-owner : goal.returns-in_err-owner
unfolding assigned_default
returns-in_err-owner g c =
    did_err _ c.in_err-owner.ensures c.from_residual.ensures

pub returns-in_err-old : goal.returns-in_err-old
unfolding assigned_default
returns-in_err-old g c =
    did_then _ c.in_ok-owner.ensures (did_err _ c.in_err-old.ensures c.from_residual-in_err-old.ensures)

pub returns-then-not-is_null : goal.returns-then-not-is_null
unfolding assigned_default
returns-then-not-is_null g c =
    did_then _ c.in_ok-owner.ensures (did_then _ c.in_ok-old.ensures (rw (← c.is_null.ensures, c.if-not-is_null.true) (did_value _ _ _ _)))

pub returns-in_err-value : goal.returns-in_err-value
unfolding assigned_default
returns-in_err-value g c =
    did_then _ c.in_ok-owner.ensures (did_then _ c.in_ok-old.ensures (rw (← c.is_null.ensures, c.if-not-is_null.false) (did_err _ (rw c.outside.ensures at c.in_err-value.ensures) c.from_residual-in_err-value.ensures)))

pub returns-in_err-putting : goal.returns-in_err-putting
unfolding assigned_default
returns-in_err-putting g c =
    did_then _ c.in_ok-owner.ensures (did_then _ c.in_ok-old.ensures (rw (← c.is_null.ensures, c.if-not-is_null.false) (did_then _ (rw c.outside.ensures at c.in_ok-value.ensures) (did_err _ c.in_err-putting.ensures c.from_residual-in_err-putting.ensures))))

pub returns : goal.returns
unfolding assigned_default
returns g c =
    did_then _ c.in_ok-owner.ensures (did_then _ c.in_ok-old.ensures (rw (← c.is_null.ensures, c.if-not-is_null.false) (did_then _ (rw c.outside.ensures at c.in_ok-value.ensures) (did_then _ c.in_ok-putting.ensures (did_value _ _ _ _)))))
