use Rattle.std.proofs.Common.{◌≡◌, ◌+◌, ◌*◌, max, drop}
use Rattle.std.specs.Prelude.{min}
use Rattle.sw_selector.specs.Depth.{greatest_by, part_depth, complex_depth, list_depth}
use Rattle.sw_selector.proofs.depth.+depth.Given as goal

abbrev pub invariant-complex_depth-parts : goal.invariant-complex_depth-parts
invariant-complex_depth-parts l =
    max l.deepest (min 255 (greatest_by (part_depth l.under) (drop l.part-index l.complex))) ≡ min 255 (greatest_by (part_depth l.under) l.complex)

abbrev pub invariant-list_depth-list : goal.invariant-list_depth-list
invariant-list_depth-list l =
    max l.deepest (min 255 (greatest_by (complex_depth l.under) (drop l.complex-index l.list))) ≡ min 255 (greatest_by (complex_depth l.under) l.list)

abbrev pub decreases-part_depth : goal.decreases-part_depth
decreases-part_depth l = 3 * part_depth 0 l.part.now

abbrev pub decreases-complex_depth : goal.decreases-complex_depth
decreases-complex_depth l = 3 * complex_depth 0 l.complex.now + 1

abbrev pub decreases-list_depth : goal.decreases-list_depth
decreases-list_depth l = 3 * list_depth 0 l.list.now + 2
