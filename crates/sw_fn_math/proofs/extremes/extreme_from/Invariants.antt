use Rattle.std.proofs.Common.{◌≡◌, drop}
use Rattle.sw_fn_math.specs.Extremes.{extreme_from}
use Rattle.sw_fn_math.proofs.extremes.extreme_from.Given as goal

abbrev pub invariant-items : goal.invariant-items
invariant-items l = extreme_from l.extreme l.best (drop l.at l.items) ≡ extreme_from l.extreme l.first l.items
