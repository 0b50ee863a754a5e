use Rattle.std.proofs.Common.{◌≡◌, drop}
use Rattle.sw_eval_calls.specs.Placing.{unwritable}
use Rattle.sw_eval_calls.proofs.placing.unwritable.Given as goal

abbrev pub invariant-arguments : goal.invariant-arguments
invariant-arguments l = unwritable l.sides (drop l.place l.arguments) (drop l.place l.values) l.span ≡ unwritable l.sides l.arguments l.values l.span
