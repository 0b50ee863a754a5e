use Rattle.std.proofs.Common.{◌≡◌, ◌++◌, drop}
use Rattle.sw_eval_configurations.specs.Loads.{named}
use Rattle.sw_eval_configurations.proofs.loads.named.Given as goal

abbrev pub invariant-members : goal.invariant-members
invariant-members l = l.all ++ named (drop l.one-index l.members) ≡ named l.members
