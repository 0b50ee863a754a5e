use Rattle.std.proofs.Common.{◌≡◌, drop}
use Rattle.sw_eval_calls.specs.Placing.{named_css}
use Rattle.sw_eval_calls.proofs.placing.named_css.Given as goal

abbrev pub invariant-named : goal.invariant-named
invariant-named l = named_css l.named ≡ named_css (drop l.one-index l.named)
