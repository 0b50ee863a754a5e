use Rattle.std.proofs.Common.{◌≡◌, drop}
use Rattle.sw_eval_expressions.specs.Choosing.{has_spread}
use Rattle.sw_eval_expressions.proofs.choosing.has_spread.Given as goal

abbrev pub invariant-arguments : goal.invariant-arguments
invariant-arguments l = has_spread l.arguments ≡ has_spread (drop l.one-index l.arguments)
