use Rattle.sw_eval_questions.proofs.Steps.{did_value, no_memory}
use Rattle.sw_eval_statements.proofs.texts.raw_text.Goals as goal

pub returns-in-Some : goal.returns-in-Some
returns-in-Some g c = rw c.in-Some.is c.statement_text.ensures

pub returns-in_err-new-in-None : goal.returns-in_err-new-in-None
returns-in_err-new-in-None g c = no_memory _ c.args.walk.now.state _ _ _ c.from_residual.ensures

pub returns-in_ok-new-in-None : goal.returns-in_ok-new-in-None
returns-in_ok-new-in-None g c = rw (c.in-None.is, c.in_ok-new-in-None.ensures) (did_value _ c.args.walk.now.state _ _)
