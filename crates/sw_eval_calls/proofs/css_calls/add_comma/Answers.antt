use Rattle.sw_eval_calls.proofs.Written.{comma_none}
use Rattle.sw_eval_calls.proofs.css_calls.add_comma.Goals as goal

pub returns-then-is_empty : goal.returns-then-is_empty
returns-then-is_empty c = comma_none _ (c.is_empty.ensures.0 c.if-is_empty.true)
