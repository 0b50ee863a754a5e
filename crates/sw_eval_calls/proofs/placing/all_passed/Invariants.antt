use Rattle.std.proofs.Common.{◌≡◌, drop}
use Rattle.sw_scope.specs.Passed.{none_passed}
use Rattle.sw_eval_calls.specs.Placing.{all_passed}
use Rattle.sw_eval_calls.proofs.placing.all_passed.Given as goal

abbrev pub invariant-arguments : goal.invariant-arguments
invariant-arguments l = all_passed l.passed (drop l.place l.arguments) (drop l.place l.values) ≡ all_passed none_passed l.arguments l.values
