use Rattle.std.proofs.Common.{◌≡◌, ◌+◌, ◌*◌, ◌++◌, drop, map}
use Rattle.sw_selector.specs.Depth.{part_depth, complex_depth, list_depth}
use Rattle.sw_selector.specs.Nesting.{part_prepared, parts_prepared, inner_nested}
use Rattle.sw_selector.proofs.prepare.+prepare.Given as goal

abbrev pub invariant-parts_prepared-parts : goal.invariant-parts_prepared-parts
invariant-parts_prepared-parts l = l.out ++ map (part_prepared l.parents) (drop l.part-index l.parts) ≡ parts_prepared l.parents l.parts

abbrev pub invariant-inner_nested-list : goal.invariant-inner_nested-list
invariant-inner_nested-list l = l.out ++ inner_nested l.parents (drop l.complex-index l.list) ≡ inner_nested l.parents l.list

abbrev pub decreases-part_prepared : goal.decreases-part_prepared
decreases-part_prepared l = 3 * part_depth 0 l.part.now

abbrev pub decreases-parts_prepared : goal.decreases-parts_prepared
decreases-parts_prepared l = 3 * complex_depth 0 l.parts.now + 1

abbrev pub decreases-inner_nested : goal.decreases-inner_nested
decreases-inner_nested l = 3 * list_depth 0 l.list.now + 2
