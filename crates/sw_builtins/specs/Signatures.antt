-- Which parameters a built-in function takes, a line for each (Sass reference documentation, "Built-In Modules" and
-- "Global Functions").
use Rattle.std.specs.Prelude.{ℕ, nat_le, List, [], ◌∷◌, codes, if◌then◌else◌}
use Rattle.sw_tree.specs.declared.callable.Params.{Params}
use Rattle.sw_fn_math.specs.declared.function.Function.{Function as Math}
use Rattle.sw_fn_math.specs.declared.function.Function.TheVariants as math
use Rattle.sw_fn_text.specs.declared.function.Function.{Function as Text}
use Rattle.sw_fn_text.specs.declared.function.Function.TheVariants as text
use Rattle.sw_fn_list.specs.declared.function.Function.{Function as Lists}
use Rattle.sw_fn_list.specs.declared.function.Function.TheVariants as lists
use Rattle.sw_fn_map.specs.declared.function.Function.{Function as Maps}
use Rattle.sw_fn_map.specs.declared.function.Function.TheVariants as maps
use Rattle.sw_fn_colour.specs.declared.function.Function.{Function as Colours}
use Rattle.sw_fn_colour.specs.declared.function.Function.TheVariants as colours
use Rattle.sw_builtins.specs.declared.built_in.Css.{Css}
use Rattle.sw_builtins.specs.declared.built_in.Css.TheVariants as css
use Rattle.sw_builtins.specs.declared.built_in.Meta.{Meta}
use Rattle.sw_builtins.specs.declared.built_in.Meta.TheVariants as meta
use Rattle.sw_builtins.specs.declared.built_in.Asked.{Asked}
use Rattle.sw_builtins.specs.declared.built_in.Asked.TheVariants as asked
use Rattle.sw_builtins.specs.declared.built_in.BuiltIn.{BuiltIn}
use Rattle.sw_builtins.specs.declared.built_in.BuiltIn.TheVariants as B
use Rattle.sw_builtins.specs.declared.shapes.Fallback.TheVariants as F
use Rattle.sw_builtins.specs.Shapes.{needed, optional, fixed, with_rest, joining, are_together, takes}

-- ---- `sass:math`

unfoldable pub math_params : Math → Params
math_params math.Ceil = fixed (needed (codes "number") ∷ [])
math_params math.Floor = fixed (needed (codes "number") ∷ [])
math_params math.Round = fixed (needed (codes "number") ∷ [])
math_params math.Abs = fixed (needed (codes "number") ∷ [])
math_params math.Min = with_rest [] (codes "number")
math_params math.Max = with_rest [] (codes "number")
math_params math.Clamp = fixed (needed (codes "min") ∷ needed (codes "number") ∷ needed (codes "max") ∷ [])
math_params math.Div = fixed (needed (codes "number1") ∷ needed (codes "number2") ∷ [])
math_params math.Percentage = fixed (needed (codes "number") ∷ [])
math_params math.Unit = fixed (needed (codes "number") ∷ [])
math_params math.IsUnitless = fixed (needed (codes "number") ∷ [])
math_params math.Compatible = fixed (needed (codes "number1") ∷ needed (codes "number2") ∷ [])

-- ---- `sass:string`

unfoldable pub text_params : Text → Params
text_params text.Quote = fixed (needed (codes "string") ∷ [])
text_params text.Unquote = fixed (needed (codes "string") ∷ [])
text_params text.ToUpperCase = fixed (needed (codes "string") ∷ [])
text_params text.ToLowerCase = fixed (needed (codes "string") ∷ [])
text_params text.Length = fixed (needed (codes "string") ∷ [])
text_params text.Index = fixed (needed (codes "string") ∷ needed (codes "substring") ∷ [])
text_params text.Insert = fixed (needed (codes "string") ∷ needed (codes "insert") ∷ needed (codes "index") ∷ [])
text_params text.Slice =
    fixed (needed (codes "string") ∷ needed (codes "start-at") ∷ optional (codes "end-at") F.Last ∷ [])
text_params text.Split =
    fixed (needed (codes "string") ∷ needed (codes "separator") ∷ optional (codes "limit") F.Null ∷ [])

-- ---- `sass:list`

unfoldable pub list_params : Lists → Params
list_params lists.Length = fixed (needed (codes "list") ∷ [])
list_params lists.Nth = fixed (needed (codes "list") ∷ needed (codes "n") ∷ [])
list_params lists.SetNth = fixed (needed (codes "list") ∷ needed (codes "n") ∷ needed (codes "value") ∷ [])
list_params lists.Index = fixed (needed (codes "list") ∷ needed (codes "value") ∷ [])
list_params lists.Zip = with_rest [] (codes "lists")
list_params lists.Join = joining
list_params lists.Append =
    fixed (needed (codes "list") ∷ needed (codes "val") ∷ optional (codes "separator") F.Auto ∷ [])
list_params lists.IsBracketed = fixed (needed (codes "list") ∷ [])
list_params lists.Separator = fixed (needed (codes "list") ∷ [])
list_params lists.Slash = with_rest [] (codes "elements")

-- ---- `sass:map`

unfoldable pub map_params : Maps → Params
map_params maps.Get = with_rest (needed (codes "map") ∷ needed (codes "key") ∷ []) (codes "keys")
map_params maps.HasKey = with_rest (needed (codes "map") ∷ needed (codes "key") ∷ []) (codes "keys")
map_params maps.Keys = fixed (needed (codes "map") ∷ [])
map_params maps.Values = fixed (needed (codes "map") ∷ [])
map_params maps.Merge = with_rest (needed (codes "map1") ∷ []) (codes "args")
map_params maps.Set = with_rest (needed (codes "map") ∷ []) (codes "args")
map_params maps.Remove = with_rest (needed (codes "map") ∷ []) (codes "keys")
map_params maps.DeepMerge = fixed (needed (codes "map1") ∷ needed (codes "map2") ∷ [])
map_params maps.DeepRemove = with_rest (needed (codes "map") ∷ needed (codes "key") ∷ []) (codes "keys")

-- ---- colours

abbrev pub color : Params
color = fixed (needed (codes "color") ∷ [])

-- the parts are given by name alone
abbrev pub color_and_parts : Params
color_and_parts =
    fixed (needed (codes "color") ∷ optional (codes "red") F.Null ∷ optional (codes "green") F.Null
    ∷ optional (codes "blue") F.Null ∷ optional (codes "hue") F.Null ∷ optional (codes "saturation") F.Null
    ∷ optional (codes "lightness") F.Null ∷ optional (codes "alpha") F.Null ∷ [])

-- where more than one argument has no name, the list is one that they don't fill
abbrev pub parts_by_name : ℕ → Params
parts_by_name count = if nat_le count 1 then color_and_parts else color

abbrev pub color_and_amount : Params
color_and_amount = fixed (needed (codes "color") ∷ needed (codes "amount") ∷ [])

abbrev pub rgb_and_alpha : Params
rgb_and_alpha =
    fixed (needed (codes "red") ∷ needed (codes "green") ∷ needed (codes "blue") ∷ needed (codes "alpha") ∷ [])

abbrev pub hsl_and_alpha : Params
hsl_and_alpha =
    fixed (needed (codes "hue") ∷ needed (codes "saturation") ∷ needed (codes "lightness")
    ∷ needed (codes "alpha") ∷ [])

unfoldable pub colour_params : Colours → ℕ → Params
colour_params colours.Red count = color
colour_params colours.Green count = color
colour_params colours.Blue count = color
colour_params colours.Hue count = color
colour_params colours.Saturation count = color
colour_params colours.Lightness count = color
colour_params colours.Alpha count = color
colour_params colours.Mix count =
    fixed (needed (codes "color1") ∷ needed (codes "color2") ∷ optional (codes "weight") F.Half ∷ [])
colour_params colours.Adjust count = parts_by_name count
colour_params colours.Scale count = parts_by_name count
colour_params colours.Change count = parts_by_name count
colour_params colours.Complement count = color
colour_params colours.Grayscale count = color
colour_params colours.Invert count = fixed (needed (codes "color") ∷ optional (codes "weight") F.Whole ∷ [])
colour_params colours.Rgb count = rgb_and_alpha
colour_params colours.Hsl count = hsl_and_alpha
colour_params colours.AdjustHue count = fixed (needed (codes "color") ∷ needed (codes "degrees") ∷ [])
colour_params colours.Lighten count = color_and_amount
colour_params colours.Darken count = color_and_amount
colour_params colours.Saturate count = color_and_amount
colour_params colours.Desaturate count = color_and_amount
colour_params colours.Opacify count = color_and_amount
colour_params colours.Transparentize count = color_and_amount

-- ---- functions that CSS has too: the list of as many parameters as there are arguments, or the first

abbrev pub channels : Params
channels = fixed (needed (codes "channels") ∷ [])

abbrev pub rgb_list : ℕ → List (List ℕ) → Params
rgb_list count named =
    if are_together count named 3 then fixed (needed (codes "red") ∷ needed (codes "green")
    ∷ needed (codes "blue") ∷ [])
    else if are_together count named 1 then channels
    else if are_together count named 2 then fixed (needed (codes "color") ∷ needed (codes "alpha") ∷ [])
    else rgb_and_alpha

-- for special text alone, which may stand for more than one of them
abbrev pub hue_and_saturation : Params
hue_and_saturation = fixed (needed (codes "hue") ∷ needed (codes "saturation") ∷ [])

abbrev pub hsl_list : ℕ → List (List ℕ) → Params
hsl_list count named =
    if are_together count named 3
    then fixed (needed (codes "hue") ∷ needed (codes "saturation") ∷ needed (codes "lightness") ∷ [])
    else if are_together count named 1 then channels
    else if are_together count named 2 then hue_and_saturation
    else hsl_and_alpha

abbrev pub color_and_weight : Params
color_and_weight = fixed (needed (codes "color") ∷ needed (codes "weight") ∷ [])

abbrev pub invert_list : ℕ → List (List ℕ) → Params
invert_list count named = if are_together count named 1 then color else color_and_weight

abbrev pub saturate_list : ℕ → List (List ℕ) → Params
saturate_list count named = if are_together count named 1 then color else color_and_amount

-- a list where it takes the arguments, or else the first
abbrev pub or_first : Params → Params → ℕ → List (List ℕ) → Params
or_first list first count named = if takes list count named then list else first

abbrev pub rgb_params : ℕ → List (List ℕ) → Params
rgb_params count named = or_first (rgb_list count named) rgb_and_alpha count named

abbrev pub hsl_params : ℕ → List (List ℕ) → Params
hsl_params count named = or_first (hsl_list count named) hsl_and_alpha count named

abbrev pub invert_params : ℕ → List (List ℕ) → Params
invert_params count named = or_first (invert_list count named) color_and_weight count named

abbrev pub saturate_params : ℕ → List (List ℕ) → Params
saturate_params count named = or_first (saturate_list count named) color_and_amount count named

unfoldable pub css_params : Css → ℕ → List (List ℕ) → Params
css_params css.Rgb count named = rgb_params count named
css_params css.Rgba count named = rgb_params count named
css_params css.Hsl count named = hsl_params count named
css_params css.Hsla count named = hsl_params count named
css_params css.Grayscale count named = color
css_params css.Invert count named = invert_params count named
css_params css.Saturate count named = saturate_params count named
css_params css.Opacity count named = color

-- ---- `sass:meta` and `if`

unfoldable pub meta_params : Meta → Params
meta_params meta.TypeOf = fixed (needed (codes "value") ∷ [])
meta_params meta.Inspect = fixed (needed (codes "value") ∷ [])
meta_params meta.Keywords = fixed (needed (codes "args") ∷ [])

unfoldable pub asked_params : Asked → Params
asked_params asked.VariableExists = fixed (needed (codes "name") ∷ [])
asked_params asked.MixinExists = fixed (needed (codes "name") ∷ optional (codes "module") F.Null ∷ [])
asked_params asked.FunctionExists = fixed (needed (codes "name") ∷ optional (codes "module") F.Null ∷ [])
asked_params asked.GlobalVariableExists = fixed (needed (codes "name") ∷ optional (codes "module") F.Null ∷ [])
asked_params asked.ContentExists = fixed []

abbrev pub if_params : Params
if_params = fixed (needed (codes "condition") ∷ needed (codes "if-true") ∷ needed (codes "if-false") ∷ [])

-- ---- all of them

-- the first list which so many arguments without a name and these with one fill, or else the first; a variable has none
unfoldable pub params_of : BuiltIn → ℕ → List (List ℕ) → Params
params_of (B.Math function) count named = math_params function
params_of (B.Text function) count named = text_params function
params_of (B.List function) count named = list_params function
params_of (B.Map function) count named = map_params function
params_of (B.Colour function) count named = colour_params function count
params_of (B.Css function) count named = css_params function count named
params_of (B.Meta function) count named = meta_params function
params_of (B.Asked function) count named = asked_params function
params_of B.If count named = if_params
params_of (B.Variable _) count named = fixed []
