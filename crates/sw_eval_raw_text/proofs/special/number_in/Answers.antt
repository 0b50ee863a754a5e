use Rattle.sw_tree.specs.declared.text.Parts as T
use Rattle.sw_eval_calls.proofs.Answering.{without_memory}
use Rattle.sw_eval_built_in_calls.proofs.Words.{out_Mixed}
use Rattle.sw_eval_raw_text.proofs.special.number_in.Goals as goal

pub returns-in_err-number-in-Plain : goal.returns-in_err-number-in-Plain
returns-in_err-number-in-Plain c = without_memory _ _ c.from_residual.ensures

pub returns-in_ok-number-in-Plain : goal.returns-in_ok-number-in-Plain
unfolding T.out-Parts denote.Hole.Carrier.out
returns-in_ok-number-in-Plain c = rw (c.in-Plain.is, ← c.as_str.ensures, ← c.in_ok-number-in-Plain.ensures) c.number_value.ensures

pub returns-in-Mixed : goal.returns-in-Mixed
returns-in-Mixed c = rw (c.in-Mixed.is, out_Mixed) c.itself.ensures
