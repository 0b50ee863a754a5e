use Rattle.std.proofs.Common.{◌≡◌, ◌+◌, ◌*◌, drop, map}
use Rattle.sw_values.specs.Weight.{nest, greatest_by}
use Rattle.sw_values.specs.Texts.{shown, all_blank}
use Rattle.sw_values.proofs.value.texts.+blank.Given as goal

abbrev pub invariant-are_blank-items : goal.invariant-are_blank-items
invariant-are_blank-items l = all_blank (map (shown l.quotes) (drop l.i l.items)) ≡ all_blank (map (shown l.quotes) l.items)

abbrev pub decreases-is_blank : goal.decreases-is_blank
decreases-is_blank l = 3 * nest l.value.now

abbrev pub decreases-are_blank : goal.decreases-are_blank
decreases-are_blank l = 3 * greatest_by nest l.items.now + 1

abbrev pub decreases-list_is_blank : goal.decreases-list_is_blank
decreases-list_is_blank l = 3 * greatest_by nest l.items.now + 2
