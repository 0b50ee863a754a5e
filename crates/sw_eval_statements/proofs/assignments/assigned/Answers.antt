use Rattle.sw_eval_statements.specs.Assignments.{assigned}
use Rattle.sw_eval_questions.proofs.Choices.{did_yes, did_no}
use Rattle.sw_eval_statements.proofs.assignments.assigned.Goals as goal

pub returns-then-statement : goal.returns-then-statement
unfolding assigned
returns-then-statement g c = did_yes _ _ _ c.if-statement.true c.assigned_default.ensures

pub returns-else-statement : goal.returns-else-statement
unfolding assigned
returns-else-statement g c = did_no _ _ _ c.if-statement.false c.assigned_always.ensures
