use Rattle.std.proofs.Common.{◌≡◌, [], drop}
use Rattle.sw_eval_built_in_calls.specs.BuiltIns.{filled}
use Rattle.sw_eval_built_in_calls.proofs.built_ins.filled.Given as goal

abbrev pub invariant-slots : goal.invariant-slots
invariant-slots l = filled [] l.params l.slots l.span ≡ filled l.done l.params (drop l.one-index l.slots) l.span
