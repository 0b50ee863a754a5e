use Rattle.std.proofs.Common.{◌≡◌, ◌++◌, map, drop}
use Rattle.sw_builtins.specs.Telling.{keyed}
use Rattle.sw_builtins.proofs.telling.keyed_pairs.Given as goal

abbrev pub invariant-named : goal.invariant-named
invariant-named l = l.pairs ++ map keyed (drop l.at l.named) ≡ map keyed l.named
