use Rattle.std.proofs.Common.{sym, lit≤}
use Rattle.sw_values.specs.Sizes.{weigh_number}
use Rattle.sw_values.proofs.Simple.{nest_plain}
use Rattle.sw_values.proofs.value.Value.number.Goals as goal

pub invariant_of-result : goal.invariant_of-result
invariant_of-result c = record { weight_is = sym (weigh_number _); nesting_is = rw c.plain.ensures (sym (nest_plain _ _)); light = lit≤ tt; flat = lit≤ tt }
