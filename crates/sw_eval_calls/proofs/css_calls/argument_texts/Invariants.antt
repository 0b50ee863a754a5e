use Rattle.std.proofs.Common.{◌≡◌, [], drop}
use Rattle.sw_eval_calls.specs.CssCalls.{argument_texts}
use Rattle.sw_eval_calls.proofs.css_calls.argument_texts.Given as goal

abbrev pub invariant-values : goal.invariant-values
invariant-values l = argument_texts [] l.values l.span ≡ argument_texts l.done (drop l.value-index l.values) l.span
