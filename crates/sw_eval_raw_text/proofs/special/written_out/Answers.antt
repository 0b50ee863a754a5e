use Rattle.sw_eval_calls.proofs.Answering.{refused_then}
use Rattle.sw_eval_raw_text.proofs.special.written_out.Goals as goal

pub returns-in_err-texts : goal.returns-in_err-texts
returns-in_err-texts c = refused_then _ _ _ _ c.in_err-texts.ensures c.from_residual.ensures

pub returns : goal.returns
returns c = rw c.in_ok-texts.ensures (rw c.as_slice.ensures at c.special_value.ensures)
