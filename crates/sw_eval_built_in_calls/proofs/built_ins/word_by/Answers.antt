use Rattle.std.proofs.Common.{refl}
use Rattle.sw_tree.specs.declared.text.Parts as T
use Rattle.sw_eval_built_in_calls.proofs.Words.{out_Mixed}
use Rattle.sw_eval_built_in_calls.proofs.built_ins.word_by.Goals as goal

pub returns-in-Plain : goal.returns-in-Plain
unfolding T.out-Parts denote.Hole.Carrier.out
returns-in-Plain c = rw c.in-Plain.is c.word_value.ensures

pub returns-in-Mixed : goal.returns-in-Mixed
returns-in-Mixed c = rw (c.in-Mixed.is, out_Mixed, c.null.ensures) refl
