use Rattle.std.proofs.Common.{◌≡◌, [], drop}
use Rattle.sw_eval_state.specs.Left.{left_by}
use Rattle.sw_eval_state.proofs.left.left_by.Given as goal

abbrev pub invariant-loop-name : goal.invariant-loop-name
invariant-loop-name l = left_by l.top (drop l.name-index l.names) l.table ≡ left_by l.top l.names []
