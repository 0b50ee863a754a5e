use Rattle.sw_eval_built_in_calls.specs.BuiltIns.{built_in_call}
use Rattle.sw_eval_calls.proofs.Answering.{without_memory}
use Rattle.sw_eval_built_in_calls.proofs.built_ins.built_in_call.Goals as goal

pub returns-in_err-passed : goal.returns-in_err-passed
returns-in_err-passed c = without_memory _ _ c.from_residual.ensures

pub returns : goal.returns
unfolding built_in_call
returns c = c.at_argument.ensures _ (rw c.in_ok-passed.ensures at c.built_in_value-value.ensures)
