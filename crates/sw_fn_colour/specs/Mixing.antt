-- Mixed and inverted colours (Sass reference documentation, "sass:color": mix, invert).
use Rattle.std.specs.Prelude.{◌-◌, ℤ, List, Result}
use Rattle.sw_colour.specs.Colours.{Rgba, computed}
use Rattle.sw_colour.specs.Mixing.{mixed}
use Rattle.sw_fn_call.specs.declared.fault.FnFault.{FnFault}
use Rattle.sw_fn_call.specs.Answers.{Answer, with}
use Rattle.sw_fn_call.specs.Arguments.{Argument, two, three}
use Rattle.sw_fn_colour.specs.Colours.{colour_of, coloured}
use Rattle.sw_fn_colour.specs.Amounts.{weight_of}

-- so many percent of the first colour
abbrev pub mix : List Argument → Answer
mix args =
    with (three args)
    (λ values. with (colour_of values.0)
    (λ first. with (colour_of values.1)
    (λ second. with (weight_of values.2) (λ weight. coloured (mixed first second weight)))))

abbrev pub inverse : Rgba → Rgba
inverse colour = computed (255 - colour.red) (255 - colour.green) (255 - colour.blue) colour.alpha

-- so many percent of the inverse
abbrev pub invert : List Argument → Answer
invert args =
    with (two args)
    (λ values. with (colour_of values.0)
    (λ colour. with (weight_of values.1) (λ weight. coloured (mixed (inverse colour) colour weight))))
