use Rattle.std.proofs.Common.{sym, lit≤}
use Rattle.sw_values.specs.Sizes.{weigh_null, nest_null}
use Rattle.sw_values.proofs.value.Value.null.Goals as goal

pub invariant_of-result : goal.invariant_of-result
invariant_of-result c = record { weight_is = sym weigh_null; nesting_is = sym nest_null; light = lit≤ tt; flat = lit≤ tt }
