use Rattle.std.proofs.Common.{◌≡◌, drop}
use Rattle.sw_media.specs.Joining.{inner_joined}
use Rattle.sw_media.proofs.joining.push_inner.Given as goal

abbrev pub invariant-inners : goal.invariant-inners
invariant-inners l = inner_joined l.outer l.list (drop l.inner-index l.inners) ≡ inner_joined l.outer l.initial.list l.inners
