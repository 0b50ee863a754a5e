use Rattle.sw_eval_walk.specs.Texts.{text}
use Rattle.sw_eval_questions.proofs.Steps.{did_value, no_memory}
use Rattle.sw_eval_walk.proofs.TextOpens.{out_Mixed}
use Rattle.sw_tree.specs.declared.text.Parts as T
use Rattle.sw_eval_walk.proofs.texts.text.Goals as goal

pub returns-in_err-share-in-Plain : goal.returns-in_err-share-in-Plain
returns-in_err-share-in-Plain g c =
    no_memory _ c.args.walk.now.state _ _ _ c.from_residual.ensures

pub returns-in_ok-share-in-Plain : goal.returns-in_ok-share-in-Plain
unfolding text T.out-Parts denote.Hole.Carrier.out
returns-in_ok-share-in-Plain g c =
    rw (c.in-Plain.is, c.in_ok-share-in-Plain.ensures) (did_value _ c.args.walk.now.state _ _)

pub returns-in-Mixed : goal.returns-in-Mixed
unfolding text
returns-in-Mixed g c =
    rw (c.in-Mixed.is, out_Mixed) (rw c.as_slice.ensures at c.mixed.ensures)
