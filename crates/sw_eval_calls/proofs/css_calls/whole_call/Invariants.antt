use Rattle.std.proofs.Common.{◌≡◌, ◌++◌, drop}
use Rattle.sw_eval_calls.proofs.css_calls.whole_call.Given as goal

abbrev pub invariant-arguments : goal.invariant-arguments
invariant-arguments l = l.pieces ++ drop l.text-index l.arguments ≡ l.initial.pieces ++ l.arguments
