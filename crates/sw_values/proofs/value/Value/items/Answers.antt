use Rattle.sw_values.proofs.PairLists.{map_light, map_flat}
use Rattle.sw_values.proofs.value.Value.items.Goals as goal

pub pair_lists-requires : goal.pair_lists-requires
pair_lists-requires c = record {
  light = map_light _ _ _ _ _ c.node.ensures.plain c.in-Map.is c.as_slice-in-Map.ensures c.weight-weight.ensures.weight c.weight-weight.ensures.light;
  flat = map_flat _ _ _ _ _ c.node.ensures.plain c.in-Map.is c.as_slice-in-Map.ensures c.nesting-nesting.ensures.nesting c.nesting-nesting.ensures.flat;
}
