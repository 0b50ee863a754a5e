use Rattle.sw_eval_walk.specs.Texts.{mixed}
use Rattle.sw_eval_questions.proofs.Steps.{did_err, did_then}
use Rattle.sw_eval_questions.proofs.Refusals.{did_stopped}
use Rattle.sw_eval_walk.proofs.texts.mixed.Goals as goal

pub returns-in_err-texts : goal.returns-in_err-texts
unfolding mixed
returns-in_err-texts g c =
    did_err _ c.in_err-texts.ensures c.from_residual.ensures

pub returns : goal.returns
unfolding mixed
returns g c =
    did_then _ c.in_ok-texts.ensures (did_stopped _ _ _ c.pieces.new.walk.state _ _ (rw c.as_slice.ensures at c.assembled.ensures) c.stopped.ensures)
