use Rattle.std.proofs.Common.{◌≡◌, ◌+◌, ◌-◌, ◌*◌, drop, length, true}
use Rattle.sw_selector.specs.Depth.{part_depth, complex_depth, list_depth}
use Rattle.sw_selector.specs.Writing.{parts_text, list_text}
use Rattle.sw_selector.proofs.room.+room.Given as goal

abbrev pub invariant-behind_parts-parts : goal.invariant-behind_parts-parts
invariant-behind_parts-parts l = l.left - length (parts_text l.first (drop l.part-index l.parts)) ≡ l.room - length (parts_text true l.parts)

abbrev pub invariant-behind_list-list : goal.invariant-behind_list-list
invariant-behind_list-list l = l.left - length (list_text l.first (drop l.complex-index l.list)) ≡ l.room - length (list_text true l.list)

abbrev pub decreases-behind_part : goal.decreases-behind_part
decreases-behind_part l = 3 * part_depth 0 l.part.now

abbrev pub decreases-behind_parts : goal.decreases-behind_parts
decreases-behind_parts l = 3 * complex_depth 0 l.parts.now + 1

abbrev pub decreases-behind_list : goal.decreases-behind_list
decreases-behind_list l = 3 * list_depth 0 l.list.now + 2
