use Rattle.std.proofs.Common.{◌≡◌, ◌+◌, length, map}
use Rattle.std.specs.Option.{option_copied, option_map_or}
use Rattle.sw_folder.specs.Paths.{segments, rest_segments}
use Rattle.sw_folder.specs.Resolution.{walk}
use Rattle.sw_folder.proofs.resolve.walk.Given as goal

abbrev pub invariant-loop-left : goal.invariant-loop-left
invariant-loop-left l = walk (map (λ segment. segment.now) l.initial.place.items) (segments l.text) ≡ walk (map (λ segment. segment.now) l.place.items) (rest_segments (option_copied l.left))

abbrev pub decreases-loop-left : goal.decreases-loop-left
decreases-loop-left l = option_map_or (λ part. length part.now + 1) l.left 0
