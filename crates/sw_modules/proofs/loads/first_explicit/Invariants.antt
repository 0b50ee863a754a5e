use Rattle.std.proofs.Common.{◌≡◌, drop}
use Rattle.sw_modules.specs.Loads.{first_explicit}
use Rattle.sw_modules.proofs.loads.first_explicit.Given as goal

abbrev pub invariant-given : goal.invariant-given
invariant-given l = first_explicit l.config ≡ first_explicit (drop l.one-index l.config)
