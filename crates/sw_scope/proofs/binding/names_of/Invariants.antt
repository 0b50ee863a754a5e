use Rattle.std.proofs.Common.{◌≡◌, [], drop}
use Rattle.sw_scope.specs.Bind.{names_after}
use Rattle.sw_scope.proofs.binding.names_of.Given as goal

abbrev pub invariant-params : goal.invariant-params
invariant-params l = names_after l.names.keys (drop l.param-index l.params) ≡ names_after [] l.params
