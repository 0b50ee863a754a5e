use Rattle.sw_eval_questions.proofs.Steps.{did_value}
use Rattle.sw_eval_statements.proofs.styles.maybe_valued.Goals as goal

pub returns-in-Some : goal.returns-in-Some
returns-in-Some g c = rw c.in-Some.is c.valued.ensures

pub returns-in-None : goal.returns-in-None
returns-in-None g c = rw c.in-None.is (did_value _ c.args.walk.now.state _ _)
