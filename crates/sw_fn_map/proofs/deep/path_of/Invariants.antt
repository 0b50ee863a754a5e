use Rattle.std.proofs.Common.{◌≡◌, ◌++◌, ◌∷◌, drop}
use Rattle.sw_fn_map.proofs.deep.path_of.Given as goal

abbrev pub invariant-keys : goal.invariant-keys
invariant-keys l = l.path ++ drop l.at l.keys ≡ l.key ∷ l.keys
