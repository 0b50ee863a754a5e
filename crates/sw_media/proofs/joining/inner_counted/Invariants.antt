use Rattle.std.proofs.Common.{◌≡◌, drop}
use Rattle.sw_media.specs.Joining.{inner_counted}
use Rattle.sw_media.proofs.joining.inner_counted.Given as goal

abbrev pub invariant-inners : goal.invariant-inners
invariant-inners l = inner_counted l.outer l.sum (drop l.inner-index l.inners) ≡ inner_counted l.outer l.count l.inners
