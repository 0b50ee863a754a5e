use Rattle.std.proofs.Common.{◌≡◌, ◌++◌, drop}
use Rattle.sw_media.proofs.joining.push_shared.Given as goal

abbrev pub invariant-features : goal.invariant-features
invariant-features l = l.out ++ drop l.feature-index l.features ≡ l.initial.out ++ l.features
