use Rattle.sw_eval_state.specs.Callables.{with_callable}
use Rattle.sw_eval_state.proofs.Answering.{out_of_memory}
use Rattle.sw_eval_state.proofs.state.State.declare_callable.Goals as goal

pub returns-in_err-name : goal.returns-in_err-name
returns-in_err-name c =
    out_of_memory _ _ _ c.from_residual.ensures

pub returns : goal.returns
unfolding with_callable
returns c = rw (rw c.get.ensures at c.in_ok-name.ensures) at c.declare_named.ensures
