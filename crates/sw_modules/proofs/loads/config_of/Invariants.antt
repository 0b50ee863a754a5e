use Rattle.std.proofs.Common.{◌≡◌, take}
use Rattle.sw_modules.specs.Loads.{config_of}
use Rattle.sw_modules.proofs.loads.config_of.Given as goal

abbrev pub invariant-loop-one : goal.invariant-loop-one
invariant-loop-one l = l.table ≡ config_of (take l.one-index l.given)
