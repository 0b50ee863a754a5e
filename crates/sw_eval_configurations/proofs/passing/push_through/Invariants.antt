use Rattle.std.proofs.Common.{◌≡◌, ◌++◌, drop}
use Rattle.sw_eval_configurations.specs.Passing.{taken_through}
use Rattle.sw_eval_configurations.proofs.passing.push_through.Given as goal

abbrev pub invariant-taken : goal.invariant-taken
invariant-taken l =
    l.names ++ taken_through l.passed l.forward (drop l.name-index l.taken) ≡ l.initial.names ++ taken_through l.passed l.forward l.taken
