use Rattle.std.proofs.Common.{sym, lit≤}
use Rattle.sw_values.specs.Sizes.{weigh_bool, nest_bool}
use Rattle.sw_values.proofs.value.Value.of_truth.Goals as goal

pub invariant_of-result : goal.invariant_of-result
invariant_of-result c = record { weight_is = sym (weigh_bool _); nesting_is = sym (nest_bool _); light = lit≤ tt; flat = lit≤ tt }
