use Rattle.std.proofs.Common.{◌≡◌, take}
use Rattle.sw_tree.proofs.globals.copy.Given as goal

abbrev pub invariant-names : goal.invariant-names
invariant-names l = l.copy ≡ take l.name-index l.names
