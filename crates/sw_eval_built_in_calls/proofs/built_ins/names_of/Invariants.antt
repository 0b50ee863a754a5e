use Rattle.std.proofs.Common.{◌≡◌, ◌++◌, drop}
use Rattle.sw_eval_built_in_calls.specs.BuiltIns.{names_of}
use Rattle.sw_eval_built_in_calls.proofs.built_ins.names_of.Given as goal

abbrev pub invariant-named : goal.invariant-named
invariant-named l = l.names ++ names_of (drop l.one-index l.named) ≡ names_of l.named
