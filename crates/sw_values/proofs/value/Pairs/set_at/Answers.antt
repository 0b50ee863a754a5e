use Rattle.sw_values.proofs.Maps.{keys-set_second}
use Rattle.sw_values.proofs.value.Pairs.set_at.Goals as goal

pub invariant_of-result : goal.invariant_of-result
invariant_of-result c = rw (c.in_ok-list.ensures, keys-set_second _ _ _) c.self.invariant
