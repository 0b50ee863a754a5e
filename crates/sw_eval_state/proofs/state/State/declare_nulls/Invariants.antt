use Rattle.std.proofs.Common.{◌≡◌, drop}
use Rattle.sw_eval_state.specs.Loop_variables.{nulls_declared}
use Rattle.sw_eval_state.proofs.state.State.declare_nulls.Given as goal

abbrev pub invariant-loop-name : goal.invariant-loop-name
invariant-loop-name l = nulls_declared (drop l.name-index l.names) l.self ≡ nulls_declared l.names l.fn.self
