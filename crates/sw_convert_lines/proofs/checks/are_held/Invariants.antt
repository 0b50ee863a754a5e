use Rattle.std.proofs.Common.{◌≡◌, true, drop, map}
use Rattle.sw_convert_lines.specs.Layout.{are_held}
use Rattle.sw_convert_lines.specs.Lines.{blocks_of, condition_of, optional_lines}
use Rattle.sw_convert_lines.proofs.checks.are_held.Given as goal

abbrev pub invariant-branches : goal.invariant-branches
invariant-branches l =
    are_held (blocks_of l.first (map condition_of (drop l.branch-index l.branches)) (optional_lines l.otherwise))
    ≡ are_held (blocks_of true (map condition_of l.branches) (optional_lines l.otherwise))
