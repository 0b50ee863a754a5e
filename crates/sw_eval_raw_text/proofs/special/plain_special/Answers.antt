use Rattle.sw_eval_calls.proofs.Answering.{without_memory}
use Rattle.sw_eval_raw_text.proofs.special.plain_special.Goals as goal

pub returns-in_err-text : goal.returns-in_err-text
returns-in_err-text c = without_memory _ _ c.from_residual.ensures

pub returns : goal.returns
returns c = rw (← c.as_str.ensures, ← c.start.ensures, ← c.in_ok-text.ensures) c.string_value.ensures
