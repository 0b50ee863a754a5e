-- The functions of `sass:string` by their names (Sass reference documentation, "sass:string").
use Rattle.std.specs.Prelude.{ℕ, List, [], ◌∷◌, codes, bytes_eq, Option}
use Rattle.std.specs.Map.{lookup}
use Rattle.sw_fn_text.specs.declared.function.Function.{Function}
use Rattle.sw_fn_text.specs.declared.function.Function.TheVariants as F

abbrev pub table : List (List ℕ × Function)
table =
    (codes "quote", F.Quote) ∷ (codes "unquote", F.Unquote) ∷ (codes "to-upper-case", F.ToUpperCase)
    ∷ (codes "to-lower-case", F.ToLowerCase) ∷ (codes "length", F.Length) ∷ (codes "index", F.Index)
    ∷ (codes "insert", F.Insert) ∷ (codes "slice", F.Slice) ∷ (codes "split", F.Split) ∷ []

abbrev pub by_name : List ℕ → Option Function
by_name name = lookup (bytes_eq name) table
