use Rattle.std.proofs.Common.{◌≡◌, drop, []}
use Rattle.sw_media.specs.Joining.{outer_joined}
use Rattle.sw_media.proofs.joining.outer_joined.Given as goal

abbrev pub invariant-outers : goal.invariant-outers
invariant-outers l = outer_joined l.inners l.list (drop l.outer-index l.outers) ≡ outer_joined l.inners [] l.outers
