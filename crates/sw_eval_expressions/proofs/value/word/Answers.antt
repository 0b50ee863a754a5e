use Rattle.sw_eval_expressions.specs.Expressions.{word}
use Rattle.sw_eval_questions.proofs.Steps.{did_err, did_then}
use Rattle.sw_eval_questions.proofs.Refusals.{did_stopped}
use Rattle.sw_eval_walk.proofs.TextOpens.{out_Mixed}
use Rattle.sw_tree.specs.declared.text.Parts as T
use Rattle.sw_eval_expressions.proofs.value.word.Goals as goal

pub returns-in-Plain : goal.returns-in-Plain
unfolding word T.out-Parts denote.Hole.Carrier.out
returns-in-Plain g c =
    rw c.in-Plain.is (did_stopped _ _ _ c.args.walk.now.state _ _ c.word_value.ensures c.stopped.ensures)

pub returns-in_err-text-in-Mixed : goal.returns-in_err-text-in-Mixed
unfolding word
returns-in_err-text-in-Mixed g c =
    rw (c.in-Mixed.is, out_Mixed) (did_err _ (rw c.as_slice.ensures at c.in_err-text-in-Mixed.ensures) c.from_residual.ensures)

pub returns-in_ok-text-in-Mixed : goal.returns-in_ok-text-in-Mixed
unfolding word
returns-in_ok-text-in-Mixed g c =
    rw (c.in-Mixed.is, out_Mixed) (did_then _ (rw c.as_slice.ensures at c.in_ok-text-in-Mixed.ensures) (did_stopped _ _ _ c.mixed.new.walk.state _ _ c.string_value.ensures c.stopped-in-Mixed.ensures))
