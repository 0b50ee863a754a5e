use Rattle.std.proofs.Common.{◌≡◌, ◌+◌, ◌*◌, ◌||◌, drop, false}
use Rattle.std.specs.List.{list_any}
use Rattle.sw_selector.specs.Depth.{part_depth, complex_depth, list_depth}
use Rattle.sw_selector.specs.Nesting.{complex_joined}
use Rattle.sw_selector.proofs.misfits.+joined.Given as goal

abbrev pub invariant-complex_joined-parts : goal.invariant-complex_joined-parts
invariant-complex_joined-parts l = (l.found || complex_joined l.before (drop l.part-index l.complex)) ≡ complex_joined false l.complex

abbrev pub invariant-some_joined-list : goal.invariant-some_joined-list
invariant-some_joined-list l = (l.found || list_any (complex_joined false) (drop l.complex-index l.list)) ≡ list_any (complex_joined false) l.list

abbrev pub decreases-part_joined : goal.decreases-part_joined
decreases-part_joined l = 4 * part_depth 0 l.part.now

abbrev pub decreases-joined_behind : goal.decreases-joined_behind
decreases-joined_behind l = 4 * part_depth 0 l.part.now + 1

abbrev pub decreases-complex_joined : goal.decreases-complex_joined
decreases-complex_joined l = 4 * complex_depth 0 l.complex.now + 2

abbrev pub decreases-some_joined : goal.decreases-some_joined
decreases-some_joined l = 4 * list_depth 0 l.list.now + 3
