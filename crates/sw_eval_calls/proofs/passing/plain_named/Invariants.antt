use Rattle.std.proofs.Common.{◌≡◌, [], drop}
use Rattle.sw_eval_calls.specs.Passing.{plain_named}
use Rattle.sw_eval_calls.proofs.passing.plain_named.Given as goal

abbrev pub invariant-named : goal.invariant-named
invariant-named l = plain_named [] l.named l.span ≡ plain_named l.done (drop l.one-index l.named) l.span
