use Rattle.sw_eval_state.specs.AtRules.{media_opened}
use Rattle.sw_eval_questions.proofs.Steps.{plain_err, plain_then}
use Rattle.sw_eval_state.proofs.Answering.{out_of_memory}
use Rattle.sw_eval_state.proofs.state.State.open_media.Goals as goal

pub returns-in_err-name : goal.returns-in_err-name
returns-in_err-name c = out_of_memory _ _ _ c.from_residual.ensures

pub returns-in_err-text : goal.returns-in_err-text
returns-in_err-text c = out_of_memory _ _ _ c.from_residual-in_err-text.ensures

pub returns-in_err-put_media : goal.returns-in_err-put_media
unfolding media_opened
returns-in_err-put_media c =
    plain_err _ _ _ _ _ _ (rw (c.in_ok-name.ensures, c.in_ok-text.ensures) at c.in_err-put_media.ensures) c.from_residual-in_err-put_media.ensures

pub returns-in_err-queries : goal.returns-in_err-queries
returns-in_err-queries c = out_of_memory _ _ _ c.from_residual-in_err-queries.ensures

pub returns-in_err-around : goal.returns-in_err-around
returns-in_err-around c = out_of_memory _ _ _ c.from_residual-in_err-around.ensures

pub returns : goal.returns
unfolding media_opened
returns c =
    plain_then _ _ _ _ _ _ (rw (c.in_ok-name.ensures, c.in_ok-text.ensures) at c.in_ok-put_media.ensures) (rw (c.in_media.ensures, c.in_ok-queries.ensures, c.in_ok-around.ensures) at c.nest.ensures)
