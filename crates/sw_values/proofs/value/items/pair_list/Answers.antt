use Rattle.std.proofs.Common.{arith}
use Rattle.sw_values.proofs.PairLists.{pair_weighs, pair_nests}
use Rattle.sw_values.proofs.value.items.pair_list.Goals as goal

pub invariant_of-result : goal.invariant_of-result
invariant_of-result c = record {
  weight_is = pair_weighs _ _ _ _ c.in_ok-items.ensures c.weight.ensures.weight c.weight-2.ensures.weight;
  nesting_is = rw (c.max-nesting.ensures) (pair_nests _ _ _ _ c.in_ok-items.ensures c.nesting.ensures.nesting c.nesting-2.ensures.nesting);
  light = omega (arith, c.requires.light, c.weight.ensures.weight, c.weight-2.ensures.weight);
  flat = omega (arith, c.requires.flat, c.max-nesting.ensures, c.nesting.ensures.nesting, c.nesting-2.ensures.nesting);
}
