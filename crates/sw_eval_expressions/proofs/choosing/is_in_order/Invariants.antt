use Rattle.std.proofs.Common.{◌≡◌, false, drop}
use Rattle.sw_eval_expressions.specs.Choosing.{ordered}
use Rattle.sw_eval_expressions.proofs.choosing.is_in_order.Given as goal

abbrev pub invariant-arguments : goal.invariant-arguments
invariant-arguments l = ordered false l.arguments ≡ ordered l.named (drop l.one-index l.arguments)
