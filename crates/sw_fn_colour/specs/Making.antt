-- Colours that are made of numbers (CSS Color Level 4, "RGB Colors" and "HSL Colors"; Sass reference documentation,
-- "Global Functions").
use Rattle.std.specs.Prelude.{ℤ, pos, Bool, not, ◌&&◌, true, false, List, [], ◌∷◌, Option, Some, None, Result, Ok, Err, if◌then◌else◌}
use Rattle.sw_fixed.specs.Arithmetic.{scale}
use Rattle.sw_units.specs.declared.number.Number.{Number}
use Rattle.sw_units.specs.declared.number.Slash.{Slash, out-Slash}
use Rattle.sw_units.specs.declared.number.Slash.TheOpen.{Slash-F}
use Rattle.sw_colour.specs.declared.change.Change.{Change}
use Rattle.sw_colour.specs.Colours.{Rgba, computed}
use Rattle.sw_values.specs.declared.plain.Plain.{Plain}
use Rattle.sw_values.specs.declared.plain.Separator.{Separator}
use Rattle.sw_values.specs.declared.plain.Separator.TheVariants as S
use Rattle.sw_values.specs.declared.value.Node.{Node}
use Rattle.sw_values.specs.declared.value.Node.TheVariants as N
use Rattle.sw_values.specs.Shape.{node_of}
use Rattle.sw_fn_call.specs.declared.fault.FnFault.{FnFault}
use Rattle.sw_fn_call.specs.declared.fault.FnFault.TheVariants as F
use Rattle.sw_fn_call.specs.Answers.{Answer, with}
use Rattle.sw_fn_call.specs.Arguments.{Argument}
use Rattle.sw_fn_call.specs.Kinds.{number_of}
use Rattle.sw_fn_colour.specs.declared.amounts.Amount.{Amount}
use Rattle.sw_fn_colour.specs.declared.amounts.Amount.TheVariants as A
use Rattle.sw_fn_colour.specs.declared.making.Form.{Form}
use Rattle.sw_fn_colour.specs.declared.making.Form.TheVariants.{RedGreenBlue, HueSaturationLightness}
use Rattle.sw_fn_colour.specs.Colours.{colour_of, coloured}
use Rattle.sw_fn_colour.specs.Amounts.{amount_of, given}
use Rattle.sw_fn_colour.specs.Changes.{rgb_change, hsl_change, changed}

-- ---- three numbers and alpha

-- what the first number is an amount of, and what the two others are
abbrev pub first_amount : Form → Amount
first_amount RedGreenBlue = A.Channel
first_amount HueSaturationLightness = A.Hue

abbrev pub other_amount : Form → Amount
other_amount RedGreenBlue = A.Channel
other_amount HueSaturationLightness = A.Percent

-- the colour of three parts and alpha, clamped and rounded once
abbrev pub made : Form → ℤ → ℤ → ℤ → ℤ → Answer
made RedGreenBlue red green blue alpha =
    coloured (changed (computed 0 0 0 (pos 0)) (rgb_change (Some red) (Some green) (Some blue) (Some alpha)))
made HueSaturationLightness hue saturation lightness alpha =
    coloured (changed (computed 0 0 0 (pos 0)) (hsl_change (Some hue) (Some saturation) (Some lightness) (Some alpha)))

unfoldable pub of_four : Form → Plain → Plain → Plain → Plain → Answer
of_four form first second third alpha =
    with (given (first_amount form) first)
    (λ first. with (given (other_amount form) second)
    (λ second. with (given (other_amount form) third)
    (λ third. with (given A.Alpha alpha) (λ alpha. made form first second third alpha))))

-- ---- a list of three numbers

abbrev pub is_spaced : Separator → Bool
is_spaced S.Undecided = false
is_spaced S.Space = true
is_spaced S.Comma = false
is_spaced S.Slash = false

abbrev pub three_items : List Plain → Result (Plain × Plain × Plain) FnFault
three_items (first ∷ second ∷ third ∷ []) = Ok (first, second, third)
three_items _ = Err F.ArgumentFault

abbrev pub items_by : Node → Result (Plain × Plain × Plain) FnFault
items_by (N.Number _) = Err F.TypeFault
items_by (N.Text _ _) = Err F.TypeFault
items_by (N.Colour _) = Err F.TypeFault
items_by (N.List items separator bracketed) =
    if is_spaced separator && not bracketed then three_items items else Err F.ArgumentFault
items_by (N.Map _) = Err F.TypeFault
items_by (N.Bool _) = Err F.TypeFault
items_by N.Null = Err F.TypeFault
items_by (N.Args _ _) = Err F.TypeFault

-- the three items of a space list without brackets
unfoldable pub items_of : Plain → Result (Plain × Plain × Plain) FnFault
items_of value = items_by (node_of value)

abbrev pub before_slash_by : Number → Slash-F Slash Number → Number
before_slash_by number Slash-F.Plain = number
before_slash_by number (Slash-F.Sides sides) = sides.0

-- the last part: the left side of a quotient that keeps its sides
unfoldable pub before_slash : Number → Number
before_slash number = before_slash_by number (out-Slash number.slash)

abbrev pub alpha_by : Slash-F Slash Number → Result ℤ FnFault
alpha_by Slash-F.Plain = Ok (pos scale)
alpha_by (Slash-F.Sides sides) = amount_of A.Alpha sides.1

-- alpha: its right side, or 1
unfoldable pub alpha_behind : Number → Result ℤ FnFault
alpha_behind number = alpha_by (out-Slash number.slash)

unfoldable pub of_list : Form → Plain → Answer
of_list form channels =
    with (items_of channels)
    (λ items. with (given (first_amount form) items.0)
    (λ first. with (given (other_amount form) items.1)
    (λ second. with (number_of items.2)
    (λ last. with (amount_of (other_amount form) (before_slash last))
    (λ third. with (alpha_behind last) (λ alpha. made form first second third alpha))))))

-- ---- the functions

-- a colour with another alpha
unfoldable pub with_alpha : Plain → Plain → Answer
with_alpha colour alpha =
    with (colour_of colour)
    (λ colour. with (given A.Alpha alpha)
    (λ alpha. coloured (changed colour (rgb_change None None None (Some alpha)))))

-- red, green, blue and alpha; or a list; or a colour and alpha
abbrev pub rgb : List Argument → Answer
rgb (channels ∷ []) = of_list RedGreenBlue channels.1
rgb (colour ∷ alpha ∷ []) = with_alpha colour.1 alpha.1
rgb (red ∷ green ∷ blue ∷ alpha ∷ []) = of_four RedGreenBlue red.1 green.1 blue.1 alpha.1
rgb _ = Err F.ArgumentFault

-- hue, saturation, lightness and alpha; or a list
abbrev pub hsl : List Argument → Answer
hsl (channels ∷ []) = of_list HueSaturationLightness channels.1
hsl (hue ∷ saturation ∷ lightness ∷ alpha ∷ []) =
    of_four HueSaturationLightness hue.1 saturation.1 lightness.1 alpha.1
hsl _ = Err F.ArgumentFault
