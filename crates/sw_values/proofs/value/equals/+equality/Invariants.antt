use Rattle.std.proofs.Common.{◌≡◌, ◌+◌, ◌*◌, drop}
use Rattle.std.specs.Cmp.Lexicographic.{pointwise}
use Rattle.sw_values.specs.Weight.{nest, greatest_by}
use Rattle.sw_values.specs.Sizes.{pair_nest}
use Rattle.sw_values.specs.Shape.{plain_of}
use Rattle.sw_values.specs.Equality.{is_equal, pairs_within}
use Rattle.sw_values.proofs.value.equals.+equality.Given as goal

abbrev pub invariant-equal_items-items : goal.invariant-equal_items-items
invariant-equal_items-items l = pointwise is_equal (drop l.i l.xs) (drop l.i l.ys) ≡ pointwise is_equal l.xs l.ys

abbrev pub invariant-pairs_within-pairs : goal.invariant-pairs_within-pairs
invariant-pairs_within-pairs l = pairs_within is_equal (drop l.i l.pairs) l.others ≡ pairs_within is_equal l.pairs l.others

abbrev pub decreases-equal_values : goal.decreases-equal_values
decreases-equal_values l = 8 * nest l.a.now + 1

abbrev pub decreases-equal_nodes : goal.decreases-equal_nodes
decreases-equal_nodes l = 8 * nest (plain_of l.a.now)

abbrev pub decreases-is_pair_within : goal.decreases-is_pair_within
decreases-is_pair_within l = 8 * greatest_by pair_nest l.pairs.now + 2

abbrev pub decreases-equal_items : goal.decreases-equal_items
decreases-equal_items l = 8 * greatest_by nest l.xs.now + 3

abbrev pub decreases-pairs_within : goal.decreases-pairs_within
decreases-pairs_within l = 8 * greatest_by pair_nest l.pairs.now + 3

abbrev pub decreases-equal_lists : goal.decreases-equal_lists
decreases-equal_lists l = 8 * greatest_by nest l.items.now + 4

abbrev pub decreases-equal_maps : goal.decreases-equal_maps
decreases-equal_maps l = 8 * greatest_by pair_nest l.pairs.now + 4
