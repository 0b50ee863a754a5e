use Rattle.std.proofs.Common.{◌≡◌, ◌++◌, drop}
use Rattle.sw_hub.proofs.copy.copied_ran.Given as goal

abbrev pub invariant-ran : goal.invariant-ran
invariant-ran l = l.out ++ drop l.path-index l.ran ≡ l.ran
