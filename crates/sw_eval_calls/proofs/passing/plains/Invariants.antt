use Rattle.std.proofs.Common.{◌≡◌, [], drop}
use Rattle.sw_eval_calls.specs.Passing.{plains}
use Rattle.sw_eval_calls.proofs.passing.plains.Given as goal

abbrev pub invariant-values : goal.invariant-values
invariant-values l = plains [] l.values l.span ≡ plains l.done (drop l.value-index l.values) l.span
