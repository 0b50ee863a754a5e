-- Colours a step away (Sass reference documentation, "Global Functions": adjust-hue, lighten, darken, saturate,
-- desaturate, opacify, transparentize).
use Rattle.std.specs.Prelude.{ℤ, neg_ℤ, List, Some, None, Result}
use Rattle.sw_colour.specs.declared.change.Change.{Change}
use Rattle.sw_colour.specs.Changes.{adjusted}
use Rattle.sw_values.specs.declared.plain.Plain.{Plain}
use Rattle.sw_fn_call.specs.declared.fault.FnFault.{FnFault}
use Rattle.sw_fn_call.specs.Answers.{Answer, with}
use Rattle.sw_fn_call.specs.Arguments.{Argument, two}
use Rattle.sw_fn_colour.specs.declared.amounts.Amount.TheVariants as A
use Rattle.sw_fn_colour.specs.Colours.{colour_of, coloured}
use Rattle.sw_fn_colour.specs.Amounts.{given, weight_of, opacity_of}
use Rattle.sw_fn_colour.specs.Changes.{hsl_change}

-- what an amount adds to the parts of a colour
abbrev pub stepped : (Plain → Result ℤ FnFault) → (ℤ → Change) → List Argument → Answer
stepped amount_of change args =
    with (two args)
    (λ values. with (colour_of values.0)
    (λ colour. with (amount_of values.1) (λ amount. coloured (adjusted colour (change amount)))))

-- the hue so many degrees on
abbrev pub adjust_hue : List Argument → Answer
adjust_hue = stepped (given A.Hue) (λ degrees. hsl_change (Some degrees) None None None)

-- an amount from 0 to 100
abbrev pub lighten : List Argument → Answer
lighten = stepped weight_of (λ amount. hsl_change None None (Some amount) None)

abbrev pub darken : List Argument → Answer
darken = stepped weight_of (λ amount. hsl_change None None (Some (neg_ℤ amount)) None)

abbrev pub saturate : List Argument → Answer
saturate = stepped weight_of (λ amount. hsl_change None (Some amount) None None)

abbrev pub desaturate : List Argument → Answer
desaturate = stepped weight_of (λ amount. hsl_change None (Some (neg_ℤ amount)) None None)

-- an amount from 0 to 1
abbrev pub opacify : List Argument → Answer
opacify = stepped opacity_of (λ amount. hsl_change None None None (Some amount))

abbrev pub transparentize : List Argument → Answer
transparentize = stepped opacity_of (λ amount. hsl_change None None None (Some (neg_ℤ amount)))
