use Rattle.sw_eval_state.specs.Rules.{prefixed}
use Rattle.sw_eval_state.proofs.Answering.{out_of_memory}
use Rattle.sw_eval_state.proofs.state.State.enter_properties.Goals as goal

pub returns-in_err-around : goal.returns-in_err-around
returns-in_err-around c = out_of_memory _ _ _ c.from_residual.ensures

pub returns : goal.returns
unfolding prefixed
returns c = rw (c.with_prefix.ensures, c.in_ok-around.ensures) at c.nest.ensures
