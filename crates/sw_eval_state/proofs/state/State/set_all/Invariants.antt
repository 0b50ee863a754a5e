use Rattle.std.proofs.Common.{◌≡◌, drop}
use Rattle.sw_eval_state.specs.Loop_variables.{all_set}
use Rattle.sw_eval_state.proofs.state.State.set_all.Given as goal

abbrev pub invariant-names : goal.invariant-names
invariant-names l = all_set (drop l.at l.names) (drop l.at l.values) l.self ≡ all_set l.names l.values l.fn.self
