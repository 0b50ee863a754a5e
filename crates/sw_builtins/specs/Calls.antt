-- What a call of a built-in function gives, a row for each.
use Rattle.std.specs.Prelude.{ℕ, Bool, true, false, ◌||◌, List, [], ◌∷◌, ◌++◌, codes, Ok, Err, if◌then◌else◌}
use Rattle.sw_values.specs.declared.plain.Plain.{Plain}
use Rattle.sw_values.specs.declared.value.Node.{Node}
use Rattle.sw_values.specs.declared.value.Node.TheVariants as N
use Rattle.sw_values.specs.Shape.{node_of, truth_of}
use Rattle.sw_fn_call.specs.declared.fault.FnFault.TheVariants as F
use Rattle.sw_fn_call.specs.Answers.{Answer, with, count}
use Rattle.sw_fn_call.specs.Arguments.{Argument, one, three}
use Rattle.sw_fn_math.specs.Calls.{answer as math_answer}
use Rattle.sw_fn_text.specs.Calls.{answer as text_answer}
use Rattle.sw_fn_list.specs.Calls.{answer as list_answer}
use Rattle.sw_fn_map.specs.Calls.{answer as map_answer}
use Rattle.sw_fn_colour.specs.Calls.{answer as colour_answer}
use Rattle.sw_fn_colour.specs.declared.function.Function.{Function as Colours}
use Rattle.sw_fn_colour.specs.declared.function.Function.TheVariants as colours
use Rattle.sw_builtins.specs.declared.built_in.Css.{Css}
use Rattle.sw_builtins.specs.declared.built_in.Css.TheVariants as css
use Rattle.sw_builtins.specs.declared.built_in.Meta.{Meta}
use Rattle.sw_builtins.specs.declared.built_in.Meta.TheVariants as meta
use Rattle.sw_builtins.specs.declared.built_in.BuiltIn.{BuiltIn}
use Rattle.sw_builtins.specs.declared.built_in.BuiltIn.TheVariants as B
use Rattle.sw_builtins.specs.Written.{is_special, has_special, channel_parts, colour_parts, written}
use Rattle.sw_builtins.specs.Telling.{type_of, inspect, keywords}

-- ---- functions that CSS has too

-- three parts of an opaque colour
abbrev pub opaque : List Argument → List Argument
opaque args = args ++ (codes "alpha", count 1) ∷ []

-- a colour and the whole of a weight
abbrev pub whole : Argument → List Argument
whole colour = colour ∷ (codes "weight", count 100) ∷ []

abbrev pub of_channels : List ℕ → Colours → List Argument → Argument → Answer
of_channels name function args channels =
    if has_special channels.1 then written name (channel_parts channels.1) else colour_answer function args

abbrev pub of_colour : List ℕ → List Argument → Argument → Argument → Answer
of_colour name args colour alpha =
    if is_special colour.1 || is_special alpha.1 then written name (colour_parts colour.1 ++ alpha.1 ∷ [])
    else colour_answer colours.Rgb args

-- the lightness is missing, unless special text may stand for it
abbrev pub of_hue : List ℕ → Argument → Argument → Answer
of_hue name hue saturation =
    if is_special hue.1 || is_special saturation.1 then written name (hue.1 ∷ saturation.1 ∷ [])
    else Err F.ArgumentFault

abbrev pub are_special : Plain → Plain → Plain → Bool
are_special first second third = is_special first || is_special second || is_special third

abbrev pub of_three : List ℕ → Colours → Argument → Argument → Argument → Answer
of_three name function first second third =
    if are_special first.1 second.1 third.1 then written name (first.1 ∷ second.1 ∷ third.1 ∷ [])
    else colour_answer function (opaque (first ∷ second ∷ third ∷ []))

abbrev pub of_four_by : List ℕ → Colours → List Argument → List Argument → Answer
of_four_by name function args (first ∷ second ∷ third ∷ alpha ∷ []) =
    if are_special first.1 second.1 third.1 || is_special alpha.1
    then written name (first.1 ∷ second.1 ∷ third.1 ∷ alpha.1 ∷ [])
    else colour_answer function args
of_four_by name function args _ = Err F.ArgumentFault

abbrev pub of_four : List ℕ → Colours → List Argument → Answer
of_four name function args = of_four_by name function args args

abbrev pub rgb_by : List ℕ → List Argument → List Argument → Answer
rgb_by name args [] = Err F.ArgumentFault
rgb_by name args (channels ∷ []) = of_channels name colours.Rgb args channels
rgb_by name args (colour ∷ alpha ∷ []) = of_colour name args colour alpha
rgb_by name args (first ∷ second ∷ third ∷ []) = of_three name colours.Rgb first second third
rgb_by name args (first ∷ second ∷ third ∷ alpha ∷ others) = of_four name colours.Rgb args

-- the colour of some parts, or their call as CSS where one of them is for CSS
abbrev pub rgb : List ℕ → List Argument → Answer
rgb name args = rgb_by name args args

abbrev pub hsl_by : List ℕ → List Argument → List Argument → Answer
hsl_by name args [] = Err F.ArgumentFault
hsl_by name args (channels ∷ []) = of_channels name colours.Hsl args channels
hsl_by name args (hue ∷ saturation ∷ []) = of_hue name hue saturation
hsl_by name args (first ∷ second ∷ third ∷ []) = of_three name colours.Hsl first second third
hsl_by name args (first ∷ second ∷ third ∷ alpha ∷ others) = of_four name colours.Hsl args

-- the same of hue, saturation and lightness
abbrev pub hsl : List ℕ → List Argument → Answer
hsl name args = hsl_by name args args

abbrev pub is_number_by : Node → Bool
is_number_by (N.Number _) = true
is_number_by (N.Text _ _) = false
is_number_by (N.Colour _) = false
is_number_by (N.List _ _ _) = false
is_number_by (N.Map _) = false
is_number_by (N.Bool _) = false
is_number_by N.Null = false
is_number_by (N.Args _ _) = false

unfoldable pub is_number : Plain → Bool
is_number value = is_number_by (node_of value)

-- of one number these are written out
abbrev pub grayscale : List Argument → Answer
grayscale args =
    with (one args)
    (λ value. if is_number value then written (codes "grayscale") (value ∷ [])
    else colour_answer colours.Grayscale args)

abbrev pub opacity : List Argument → Answer
opacity args =
    with (one args)
    (λ value. if is_number value then written (codes "opacity") (value ∷ []) else colour_answer colours.Alpha args)

abbrev pub inverted : Argument → Answer
inverted colour =
    if is_number colour.1 then written (codes "invert") (colour.1 ∷ [])
    else colour_answer colours.Invert (whole colour)

abbrev pub invert_by : List Argument → List Argument → Answer
invert_by args [] = Err F.ArgumentFault
invert_by args (colour ∷ []) = inverted colour
invert_by args (colour ∷ weight ∷ others) = colour_answer colours.Invert args

abbrev pub invert : List Argument → Answer
invert args = invert_by args args

-- the amount is missing
abbrev pub saturated : Plain → Answer
saturated value = if is_number value then written (codes "saturate") (value ∷ []) else Err F.ArgumentFault

abbrev pub saturate_by : List Argument → List Argument → Answer
saturate_by args [] = Err F.ArgumentFault
saturate_by args (colour ∷ []) = saturated colour.1
saturate_by args (colour ∷ amount ∷ others) = colour_answer colours.Saturate args

abbrev pub saturate : List Argument → Answer
saturate args = saturate_by args args

unfoldable pub css_answer : Css → List Argument → Answer
css_answer css.Rgb args = rgb (codes "rgb") args
css_answer css.Rgba args = rgb (codes "rgba") args
css_answer css.Hsl args = hsl (codes "hsl") args
css_answer css.Hsla args = hsl (codes "hsla") args
css_answer css.Grayscale args = grayscale args
css_answer css.Invert args = invert args
css_answer css.Saturate args = saturate args
css_answer css.Opacity args = opacity args

-- ---- all of them

unfoldable pub meta_answer : Meta → List Argument → Answer
meta_answer meta.TypeOf args = type_of args
meta_answer meta.Inspect args = inspect args
meta_answer meta.Keywords args = keywords args

-- a value that counts as true chooses the second
abbrev pub chosen : List Argument → Answer
chosen args = with (three args) (λ values. Ok (if truth_of values.0 then values.1 else values.2))

-- what isn't computed here takes no arguments, and neither does a variable
unfoldable pub answer : BuiltIn → List Argument → Answer
answer (B.Math function) args = math_answer function args
answer (B.Text function) args = text_answer function args
answer (B.List function) args = list_answer function args
answer (B.Map function) args = map_answer function args
answer (B.Colour function) args = colour_answer function args
answer (B.Css function) args = css_answer function args
answer (B.Meta function) args = meta_answer function args
answer (B.Asked _) args = Err F.ArgumentFault
answer B.If args = chosen args
answer (B.Variable _) args = Err F.ArgumentFault
