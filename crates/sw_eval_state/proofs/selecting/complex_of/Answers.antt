use Rattle.sw_eval_state.specs.Selecting.{complex_of}
use Rattle.sw_eval_calls.proofs.Answering.{refused_then}
use Rattle.sw_eval_state.proofs.selecting.complex_of.Goals as goal

pub returns-in_err-words : goal.returns-in_err-words
unfolding complex_of
returns-in_err-words c = refused_then _ _ _ _ c.in_err-words.ensures c.from_residual.ensures

pub returns : goal.returns
unfolding complex_of
returns c = rw c.in_ok-words.ensures c.list_value.ensures
