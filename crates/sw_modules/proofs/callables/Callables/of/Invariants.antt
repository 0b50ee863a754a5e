use Rattle.std.proofs.Common.{◌≡◌, take}
use Rattle.sw_modules.specs.Callables.{callables_of}
use Rattle.sw_modules.proofs.callables.Callables.of.Given as goal

abbrev pub invariant-declared : goal.invariant-declared
invariant-declared l = l.callables ≡ callables_of (take l.one-index l.declared)
