use Rattle.std.proofs.Common.{◌≡◌, [], drop}
use Rattle.sw_eval_state.specs.Left.{declared}
use Rattle.sw_eval_state.proofs.left.declared.Given as goal

abbrev pub invariant-statements : goal.invariant-statements
invariant-statements l = declared [] l.statements ≡ declared l.all (drop l.statement-index l.statements)
