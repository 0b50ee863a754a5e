-- The functions of colours by their names (Sass reference documentation, "sass:color" and "Global Functions").
use Rattle.std.specs.Prelude.{ℕ, List, [], ◌∷◌, codes, bytes_eq, Option}
use Rattle.std.specs.Map.{lookup}
use Rattle.sw_fn_colour.specs.declared.function.Function.{Function}
use Rattle.sw_fn_colour.specs.declared.function.Function.TheVariants as F

abbrev pub table : List (List ℕ × Function)
table =
    (codes "red", F.Red) ∷ (codes "green", F.Green) ∷ (codes "blue", F.Blue) ∷ (codes "hue", F.Hue)
    ∷ (codes "saturation", F.Saturation) ∷ (codes "lightness", F.Lightness) ∷ (codes "alpha", F.Alpha)
    ∷ (codes "mix", F.Mix) ∷ (codes "adjust", F.Adjust) ∷ (codes "scale", F.Scale) ∷ (codes "change", F.Change)
    ∷ (codes "complement", F.Complement) ∷ (codes "grayscale", F.Grayscale) ∷ (codes "invert", F.Invert) ∷ []

abbrev pub by_name : List ℕ → Option Function
by_name name = lookup (bytes_eq name) table

-- those that stand in no module
abbrev pub global_table : List (List ℕ × Function)
global_table =
    (codes "rgb", F.Rgb) ∷ (codes "rgba", F.Rgb) ∷ (codes "hsl", F.Hsl) ∷ (codes "hsla", F.Hsl)
    ∷ (codes "adjust-hue", F.AdjustHue) ∷ (codes "lighten", F.Lighten) ∷ (codes "darken", F.Darken)
    ∷ (codes "saturate", F.Saturate) ∷ (codes "desaturate", F.Desaturate) ∷ (codes "opacify", F.Opacify)
    ∷ (codes "fade-in", F.Opacify) ∷ (codes "transparentize", F.Transparentize) ∷ (codes "fade-out", F.Transparentize)
    ∷ []

abbrev pub by_global_name : List ℕ → Option Function
by_global_name name = lookup (bytes_eq name) global_table
