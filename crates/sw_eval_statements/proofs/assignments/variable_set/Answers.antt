use Rattle.sw_eval_statements.specs.Assignments.{variable_set}
use Rattle.sw_eval_questions.proofs.Steps.{did_value, did_err, did_then, no_memory}
use Rattle.sw_eval_statements.proofs.assignments.variable_set.Goals as goal

pub returns-in_err-name_span : goal.returns-in_err-name_span
returns-in_err-name_span g c = no_memory _ c.args.walk.now.state _ _ _ c.from_residual.ensures

pub returns-in_err-kept : goal.returns-in_err-kept
unfolding variable_set
returns-in_err-kept g c =
    did_err _ (rw c.in_ok-name_span.ensures at c.in_err-kept.ensures) c.from_residual-in_err-kept.ensures

pub returns-then-kept : goal.returns-then-kept
unfolding variable_set
returns-then-kept g c =
    did_then _ (rw c.in_ok-name_span.ensures at c.in_ok-kept.ensures) (rw c.if-kept.true (did_value _ _ _ _))

pub returns-in_err-value : goal.returns-in_err-value
unfolding variable_set
returns-in_err-value g c =
    did_then _ (rw c.in_ok-name_span.ensures at c.in_ok-kept.ensures) (rw c.if-kept.false (did_err _ (rw c.outside.ensures at c.in_err-value.ensures) c.from_residual-in_err-value.ensures))

pub returns-in_err-stored : goal.returns-in_err-stored
unfolding variable_set
returns-in_err-stored g c =
    did_then _ (rw c.in_ok-name_span.ensures at c.in_ok-kept.ensures) (rw c.if-kept.false (did_then _ (rw c.outside.ensures at c.in_ok-value.ensures) (did_err _ (rw c.in_ok-name_span.ensures at c.in_err-stored.ensures) c.from_residual-in_err-stored.ensures)))

pub returns : goal.returns
unfolding variable_set
returns g c =
    did_then _ (rw c.in_ok-name_span.ensures at c.in_ok-kept.ensures) (rw c.if-kept.false (did_then _ (rw c.outside.ensures at c.in_ok-value.ensures) (did_then _ (rw c.in_ok-name_span.ensures at c.in_ok-stored.ensures) (did_value _ _ _ _))))
