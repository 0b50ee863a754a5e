use Rattle.sw_eval_expressions.specs.Special.{special}
use Rattle.sw_eval_questions.proofs.Refusals.{did_stopped}
use Rattle.sw_eval_walk.proofs.TextOpens.{out_Mixed}
use Rattle.sw_tree.specs.declared.text.Parts as T
use Rattle.sw_eval_expressions.proofs.special.special.Goals as goal

pub returns-in-Plain : goal.returns-in-Plain
unfolding special T.out-Parts denote.Hole.Carrier.out
returns-in-Plain g c =
    rw c.in-Plain.is (did_stopped _ _ _ c.args.walk.now.state _ _ c.plain_special.ensures c.stopped.ensures)

pub returns-in-Some : goal.returns-in-Some
unfolding special
returns-in-Some g c =
    rw (c.in-Mixed.is, out_Mixed) (rw (← rw c.as_slice.ensures at c.in-Some.ensures) (rw c.as_slice-in-Some.ensures at c.extremum_called.ensures))

pub returns-in-None : goal.returns-in-None
unfolding special
returns-in-None g c =
    rw (c.in-Mixed.is, out_Mixed) (rw (← rw c.as_slice.ensures at c.in-None.ensures) (rw c.as_slice-in-None.ensures at c.special_text.ensures))
