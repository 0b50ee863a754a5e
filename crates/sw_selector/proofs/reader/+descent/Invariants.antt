use Rattle.std.proofs.Common.{◌≡◌, ◌+◌, ◌-◌, ◌*◌, length}
use Rattle.sw_selector.specs.Reading.{complex_from, complex_at, list_from, selectors_in}
use Rattle.sw_selector.proofs.reader.+descent.Given as goal

abbrev pub invariant-selectors_in-selectors : goal.invariant-selectors_in-selectors
invariant-selectors_in-selectors l =
    list_from (selectors_in l.text (l.levels - 1)) l.text ((length l.text + 1) - l._turn) l.list l.place ≡ selectors_in l.text l.levels l.at

abbrev pub invariant-complex_at-parts : goal.invariant-complex_at-parts
invariant-complex_at-parts l =
    complex_from (selectors_in l.text l.levels) l.text ((length l.text + 1) - l._turn) l.before l.parts l.place ≡ complex_at (selectors_in l.text l.levels) l.text l.at

abbrev pub decreases-selectors_in : goal.decreases-selectors_in
decreases-selectors_in l = 16 * l.levels

abbrev pub decreases-argument_at : goal.decreases-argument_at
decreases-argument_at l = 16 * l.levels + 1

abbrev pub decreases-pseudo_behind : goal.decreases-pseudo_behind
decreases-pseudo_behind l = 16 * l.levels + 2

abbrev pub decreases-pseudo_at : goal.decreases-pseudo_at
decreases-pseudo_at l = 16 * l.levels + 3

abbrev pub decreases-simple_at : goal.decreases-simple_at
decreases-simple_at l = 16 * l.levels + 4

abbrev pub decreases-plain_turn : goal.decreases-plain_turn
decreases-plain_turn l = 16 * l.levels + 5

abbrev pub decreases-spaced_turn : goal.decreases-spaced_turn
decreases-spaced_turn l = 16 * l.levels + 6

abbrev pub decreases-turn_at : goal.decreases-turn_at
decreases-turn_at l = 16 * l.levels + 7

abbrev pub decreases-complex_at : goal.decreases-complex_at
decreases-complex_at l = 16 * l.levels + 8
