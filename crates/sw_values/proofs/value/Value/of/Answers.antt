use Rattle.std.proofs.Common.{refl}
use Rattle.sw_values.proofs.Within.{within, too_heavy, too_deep}
use Rattle.sw_values.proofs.value.Value.of.Goals as goal

pub returns-then-weight-gt-MOST_WEIGHT : goal.returns-then-weight-gt-MOST_WEIGHT
returns-then-weight-gt-MOST_WEIGHT c = (refl, too_heavy _ _ c.weight_of-weight.ensures c.if-weight-gt-MOST_WEIGHT.true)

pub returns-then-nesting-gt-DEEPEST : goal.returns-then-nesting-gt-DEEPEST
returns-then-nesting-gt-DEEPEST c = (refl, too_deep _ (rw c.nesting_of-nesting.ensures at c.if-nesting-gt-DEEPEST.true))

pub returns : goal.returns
returns c = (refl, within _ _ c.weight_of-weight.ensures c.if-weight-gt-MOST_WEIGHT.false (rw c.nesting_of-nesting.ensures at c.if-nesting-gt-DEEPEST.false))
