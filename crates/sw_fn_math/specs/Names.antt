-- The functions of `sass:math` by their names (Sass reference documentation, "sass:math").
use Rattle.std.specs.Prelude.{ℕ, List, [], ◌∷◌, codes, bytes_eq, Option}
use Rattle.std.specs.Map.{lookup}
use Rattle.sw_fn_math.specs.declared.function.Function.{Function}
use Rattle.sw_fn_math.specs.declared.function.Function.TheVariants as F

abbrev pub table : List (List ℕ × Function)
table =
    (codes "ceil", F.Ceil) ∷ (codes "floor", F.Floor) ∷ (codes "round", F.Round) ∷ (codes "abs", F.Abs)
    ∷ (codes "min", F.Min) ∷ (codes "max", F.Max) ∷ (codes "clamp", F.Clamp) ∷ (codes "div", F.Div)
    ∷ (codes "percentage", F.Percentage) ∷ (codes "unit", F.Unit) ∷ (codes "is-unitless", F.IsUnitless)
    ∷ (codes "compatible", F.Compatible) ∷ []

abbrev pub by_name : List ℕ → Option Function
by_name name = lookup (bytes_eq name) table
