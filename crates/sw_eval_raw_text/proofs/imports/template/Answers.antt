use Rattle.sw_tree.specs.declared.text.Parts as T
use Rattle.sw_eval_raw_text.specs.Imports.{template}
use Rattle.sw_eval_built_in_calls.proofs.Words.{out_Mixed}
use Rattle.sw_eval_raw_text.proofs.imports.template.Goals as goal

pub returns-in-Plain : goal.returns-in-Plain
unfolding template T.out-Parts denote.Hole.Carrier.out
returns-in-Plain c = rw c.in-Plain.is c.share.ensures

pub returns-in-Mixed : goal.returns-in-Mixed
unfolding template
returns-in-Mixed c = rw (c.in-Mixed.is, out_Mixed) (rw c.as_slice.ensures at c.template_of.ensures)
