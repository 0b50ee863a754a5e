use Rattle.std.proofs.Common.{◌≡◌, drop}
use Rattle.sw_eval_configurations.specs.Passing.{value_of}
use Rattle.sw_eval_configurations.proofs.passing.value_of.Given as goal

abbrev pub invariant-passed : goal.invariant-passed
invariant-passed l = value_of l.passed l.name ≡ value_of (drop l.one-index l.passed) l.name
