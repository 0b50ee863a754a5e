-- The functions of `sass:list` by their names (Sass reference documentation, "sass:list").
use Rattle.std.specs.Prelude.{ℕ, List, [], ◌∷◌, codes, bytes_eq, Option}
use Rattle.std.specs.Map.{lookup}
use Rattle.sw_fn_list.specs.declared.function.Function.{Function}
use Rattle.sw_fn_list.specs.declared.function.Function.TheVariants as F

abbrev pub table : List (List ℕ × Function)
table =
    (codes "length", F.Length) ∷ (codes "nth", F.Nth) ∷ (codes "set-nth", F.SetNth) ∷ (codes "index", F.Index)
    ∷ (codes "zip", F.Zip) ∷ (codes "join", F.Join) ∷ (codes "append", F.Append)
    ∷ (codes "is-bracketed", F.IsBracketed) ∷ (codes "separator", F.Separator) ∷ (codes "slash", F.Slash) ∷ []

abbrev pub by_name : List ℕ → Option Function
by_name name = lookup (bytes_eq name) table
