use Rattle.std.proofs.Common.{◌≡◌, drop}
use Rattle.sw_eval_configurations.specs.Passing.{value_in}
use Rattle.sw_eval_configurations.proofs.passing.value_in.Given as goal

abbrev pub invariant-config : goal.invariant-config
invariant-config l = value_in l.config l.name ≡ value_in (drop l.one-index l.config) l.name
