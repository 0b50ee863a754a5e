use Rattle.std.proofs.Common.{◌≡◌, drop}
use Rattle.sw_media.specs.Joining.{outer_counted}
use Rattle.sw_media.proofs.joining.outer_counted.Given as goal

abbrev pub invariant-outers : goal.invariant-outers
invariant-outers l = outer_counted l.inners l.sum (drop l.outer-index l.outers) ≡ outer_counted l.inners 0 l.outers
