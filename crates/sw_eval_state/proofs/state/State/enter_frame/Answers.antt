use Rattle.sw_eval_state.specs.Rules.{frame_entered}
use Rattle.sw_eval_questions.proofs.Steps.{plain_err, plain_then}
use Rattle.sw_eval_state.proofs.Answering.{plain_stopped}
use Rattle.sw_eval_state.proofs.state.State.enter_frame.Goals as goal

pub returns-in_err-text : goal.returns-in_err-text
unfolding frame_entered
returns-in_err-text c =
    plain_err _ _ _ _ c.args.self.now _ (plain_stopped _ _ _ c.args.self.now c.keyframe_text.ensures c.in_err-text.ensures) c.from_residual.ensures

pub returns : goal.returns
unfolding frame_entered
returns c =
    plain_then _ _ _ _ c.args.self.now _ (plain_stopped _ _ _ c.args.self.now c.keyframe_text.ensures c.in_ok-text.ensures) c.enter_plain.ensures
