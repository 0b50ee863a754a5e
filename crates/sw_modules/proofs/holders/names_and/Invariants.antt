use Rattle.std.proofs.Common.{◌≡◌, take}
use Rattle.sw_modules.proofs.holders.names_and.Given as goal

abbrev pub invariant-names : goal.invariant-names
invariant-names l = l.all ≡ take l.one-index l.names
