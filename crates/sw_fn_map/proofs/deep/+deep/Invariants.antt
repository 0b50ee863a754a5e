use Rattle.std.proofs.Common.{◌≡◌, ◌+◌, ◌*◌, ◌++◌, drop, Ok}
use Rattle.sw_fn_call.specs.Answers.{with}
use Rattle.sw_fn_map.specs.Deep.{deep_pairs, deep_merged}
use Rattle.sw_fn_map.proofs.deep.+deep.Given as goal

abbrev pub invariant-deep_pairs-pairs : goal.invariant-deep_pairs-pairs
invariant-deep_pairs-pairs l =
    with (deep_pairs (deep_merged l.levels) (drop l.at l.pairs) l.other) (λ rest. Ok (l.all ++ rest))
    ≡ deep_pairs (deep_merged l.levels) l.pairs l.other

abbrev pub decreases-met : goal.decreases-met
decreases-met l = 5 * l.levels + 1

abbrev pub decreases-deep_value : goal.decreases-deep_value
decreases-deep_value l = 5 * l.levels + 2

abbrev pub decreases-deep_pair : goal.decreases-deep_pair
decreases-deep_pair l = 5 * l.levels + 3

abbrev pub decreases-deep_pairs : goal.decreases-deep_pairs
decreases-deep_pairs l = 5 * l.levels + 4

abbrev pub decreases-deep_merged : goal.decreases-deep_merged
decreases-deep_merged l = 5 * l.levels
