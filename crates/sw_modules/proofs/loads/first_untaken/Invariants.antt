use Rattle.std.proofs.Common.{◌≡◌, drop}
use Rattle.sw_modules.specs.Loads.{first_untaken}
use Rattle.sw_modules.proofs.loads.first_untaken.Given as goal

abbrev pub invariant-loop-one : goal.invariant-loop-one
invariant-loop-one l = first_untaken l.given l.taken ≡ first_untaken (drop l.one-index l.given) l.taken
