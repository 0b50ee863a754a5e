use Rattle.std.proofs.Common.{◌≡◌, ◌++◌, drop}
use Rattle.sw_fn_map.specs.Changes.{steps_of}
use Rattle.sw_fn_map.proofs.changes.steps.Given as goal

abbrev pub invariant-keys : goal.invariant-keys
invariant-keys l = l.steps ++ steps_of l.inner (drop l.at l.keys) ≡ steps_of l.pairs l.keys
