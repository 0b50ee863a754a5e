use Rattle.std.proofs.Common.{◌≡◌, drop}
use Rattle.sw_eval_expressions.specs.Choosing.{by_name}
use Rattle.sw_eval_expressions.proofs.choosing.by_name.Given as goal

abbrev pub invariant-arguments : goal.invariant-arguments
invariant-arguments l = by_name l.name l.arguments ≡ by_name l.name (drop l.one-index l.arguments)
