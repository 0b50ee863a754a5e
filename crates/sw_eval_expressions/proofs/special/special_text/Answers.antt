use Rattle.sw_eval_expressions.specs.Special.{special_text}
use Rattle.sw_eval_questions.proofs.Steps.{did_err, did_then}
use Rattle.sw_eval_questions.proofs.Refusals.{did_stopped}
use Rattle.sw_eval_expressions.proofs.special.special_text.Goals as goal

pub returns-in_err-texts : goal.returns-in_err-texts
unfolding special_text
returns-in_err-texts g c =
    did_err _ c.in_err-texts.ensures c.from_residual.ensures

pub returns : goal.returns
unfolding special_text
returns g c =
    did_then _ c.in_ok-texts.ensures (did_stopped _ _ _ c.pieces.new.walk.state _ _ (rw c.as_slice.ensures at c.special_value.ensures) c.stopped.ensures)
