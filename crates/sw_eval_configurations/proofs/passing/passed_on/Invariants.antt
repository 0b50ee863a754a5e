use Rattle.std.proofs.Common.{◌≡◌, ◌++◌, drop}
use Rattle.sw_eval_configurations.specs.Passing.{passed_on}
use Rattle.sw_eval_configurations.proofs.passing.passed_on.Given as goal

abbrev pub invariant-config : goal.invariant-config
invariant-config l = l.passed ++ passed_on (drop l.one-index l.config) l.forward ≡ passed_on l.config l.forward
