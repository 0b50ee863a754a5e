use Rattle.std.proofs.Common.{◌≡◌, ◌+◌, ◌-◌, ◌*◌, [], ◌∷◌, length}
use Rattle.sw_media.specs.Reading.{more_from, features_at, conditions_in}
use Rattle.sw_media.proofs.reader.+descent.Given as goal

abbrev pub invariant-features_at-features : goal.invariant-features_at-features
invariant-features_at-features l =
    more_from (conditions_in l.text l.levels) l.text l.keyword ((length l.text + 1) - l._turn) l.list l.place
    ≡ features_at (conditions_in l.text l.levels) l.text l.keyword (l.fn.first ∷ []) l.at

abbrev pub decreases-conditions_in : goal.decreases-conditions_in
decreases-conditions_in l = 16 * l.levels

abbrev pub decreases-nested_at : goal.decreases-nested_at
decreases-nested_at l = 16 * l.levels + 1

abbrev pub decreases-inside_at : goal.decreases-inside_at
decreases-inside_at l = 16 * l.levels + 2

abbrev pub decreases-feature_at : goal.decreases-feature_at
decreases-feature_at l = 16 * l.levels + 3

abbrev pub decreases-features_at : goal.decreases-features_at
decreases-features_at l = 16 * l.levels + 4

abbrev pub decreases-denied_at : goal.decreases-denied_at
decreases-denied_at l = 16 * l.levels + 4

abbrev pub decreases-joined_behind : goal.decreases-joined_behind
decreases-joined_behind l = 16 * l.levels + 5

abbrev pub decreases-condition_at : goal.decreases-condition_at
decreases-condition_at l = 16 * l.levels + 6
