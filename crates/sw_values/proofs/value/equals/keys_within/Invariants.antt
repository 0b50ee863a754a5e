use Rattle.std.proofs.Common.{◌≡◌, drop}
use Rattle.sw_values.specs.Equality.{is_equal, keys_within}
use Rattle.sw_values.proofs.value.equals.keys_within.Given as goal

abbrev pub invariant-pairs : goal.invariant-pairs
invariant-pairs l = keys_within is_equal (drop l.i l.pairs) l.others ≡ keys_within is_equal l.pairs l.others
