use Rattle.std.proofs.Common.{◌≡◌, ◌+◌, ◌*◌, ◌++◌, drop, true}
use Rattle.std.specs.String.{string_bytes}
use Rattle.sw_selector.specs.Depth.{part_depth, complex_depth, list_depth}
use Rattle.sw_selector.specs.Writing.{parts_text, list_text}
use Rattle.sw_selector.proofs.write.+write.Given as goal

abbrev pub invariant-write_parts-parts : goal.invariant-write_parts-parts
invariant-write_parts-parts l =
    string_bytes l.out ++ parts_text l.first (drop l.part-index l.parts) ≡ string_bytes l.initial.out ++ parts_text true l.parts

abbrev pub invariant-list_text-list : goal.invariant-list_text-list
invariant-list_text-list l = string_bytes l.out ++ list_text l.first (drop l.complex-index l.list) ≡ list_text true l.list

abbrev pub decreases-write_part : goal.decreases-write_part
decreases-write_part l = 3 * part_depth 0 l.part.now

abbrev pub decreases-write_parts : goal.decreases-write_parts
decreases-write_parts l = 3 * complex_depth 0 l.parts.now + 1

abbrev pub decreases-list_text : goal.decreases-list_text
decreases-list_text l = 3 * list_depth 0 l.list.now + 2
