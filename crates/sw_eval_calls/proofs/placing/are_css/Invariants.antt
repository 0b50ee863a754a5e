use Rattle.std.proofs.Common.{◌≡◌, drop}
use Rattle.sw_eval_calls.specs.Placing.{are_css}
use Rattle.sw_eval_calls.proofs.placing.are_css.Given as goal

abbrev pub invariant-values : goal.invariant-values
invariant-values l = are_css l.values ≡ are_css (drop l.value-index l.values)
