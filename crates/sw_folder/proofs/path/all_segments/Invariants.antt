use Rattle.std.proofs.Common.{◌≡◌, ◌+◌, length}
use Rattle.std.specs.List.{list_all}
use Rattle.std.specs.Option.{option_copied, option_map_or}
use Rattle.sw_folder.specs.Paths.{segments, rest_segments, is_segment}
use Rattle.sw_folder.proofs.path.all_segments.Given as goal

abbrev pub invariant-loop-left : goal.invariant-loop-left
invariant-loop-left l = list_all is_segment (segments l.text) ≡ list_all is_segment (rest_segments (option_copied l.left))

abbrev pub decreases-loop-left : goal.decreases-loop-left
decreases-loop-left l = option_map_or (λ part. length part.now + 1) l.left 0
