-- The functions of `sass:map` by their names (Sass reference documentation, "sass:map").
use Rattle.std.specs.Prelude.{ℕ, List, [], ◌∷◌, codes, bytes_eq, Option}
use Rattle.std.specs.Map.{lookup}
use Rattle.sw_fn_map.specs.declared.function.Function.{Function}
use Rattle.sw_fn_map.specs.declared.function.Function.TheVariants as F

abbrev pub table : List (List ℕ × Function)
table =
    (codes "get", F.Get) ∷ (codes "has-key", F.HasKey) ∷ (codes "keys", F.Keys) ∷ (codes "values", F.Values)
    ∷ (codes "merge", F.Merge) ∷ (codes "set", F.Set) ∷ (codes "remove", F.Remove)
    ∷ (codes "deep-merge", F.DeepMerge) ∷ (codes "deep-remove", F.DeepRemove) ∷ []

abbrev pub by_name : List ℕ → Option Function
by_name name = lookup (bytes_eq name) table
