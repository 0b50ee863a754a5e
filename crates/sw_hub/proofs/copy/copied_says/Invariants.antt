use Rattle.std.proofs.Common.{◌≡◌, ◌++◌, drop}
use Rattle.sw_hub.proofs.copy.copied_says.Given as goal

abbrev pub invariant-says : goal.invariant-says
invariant-says l = l.out ++ drop l.saying-index l.says ≡ l.says
