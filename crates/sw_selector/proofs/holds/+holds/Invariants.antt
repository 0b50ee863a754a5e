use Rattle.std.proofs.Common.{◌≡◌, ◌+◌, ◌*◌, ◌||◌, drop}
use Rattle.std.specs.List.{list_any}
use Rattle.sw_selector.specs.Depth.{part_depth, complex_depth, list_depth}
use Rattle.sw_selector.specs.Holds.{part_has, complex_holds}
use Rattle.sw_selector.proofs.holds.+holds.Given as goal

abbrev pub invariant-complex_holds-parts : goal.invariant-complex_holds-parts
invariant-complex_holds-parts l = (l.found || list_any (part_has l.sought) (drop l.part-index l.complex)) ≡ list_any (part_has l.sought) l.complex

abbrev pub invariant-some_holds-list : goal.invariant-some_holds-list
invariant-some_holds-list l = (l.found || list_any (complex_holds l.sought) (drop l.complex-index l.list)) ≡ list_any (complex_holds l.sought) l.list

abbrev pub decreases-part_has : goal.decreases-part_has
decreases-part_has l = 3 * part_depth 0 l.part.now

abbrev pub decreases-complex_holds : goal.decreases-complex_holds
decreases-complex_holds l = 3 * complex_depth 0 l.complex.now + 1

abbrev pub decreases-some_holds : goal.decreases-some_holds
decreases-some_holds l = 3 * list_depth 0 l.list.now + 2
