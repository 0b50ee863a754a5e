-- Colours among arguments and values.
use Rattle.std.specs.Prelude.{List, Result, Ok, Err}
use Rattle.sw_colour.specs.Colours.{Rgba}
use Rattle.sw_values.specs.declared.plain.Plain.{Plain}
use Rattle.sw_values.specs.declared.plain.Plain.TheVariants as P
use Rattle.sw_values.specs.declared.value.Node.{Node}
use Rattle.sw_values.specs.declared.value.Node.TheVariants as N
use Rattle.sw_values.specs.Shape.{node_of}
use Rattle.sw_fn_call.specs.declared.fault.FnFault.{FnFault}
use Rattle.sw_fn_call.specs.declared.fault.FnFault.TheVariants as F
use Rattle.sw_fn_call.specs.Answers.{Answer, with, within}
use Rattle.sw_fn_call.specs.Arguments.{Argument, one, two}

abbrev pub colour_by : Node → Result Rgba FnFault
colour_by (N.Number _) = Err F.TypeFault
colour_by (N.Text _ _) = Err F.TypeFault
colour_by (N.Colour colour) = Ok colour
colour_by (N.List _ _ _) = Err F.TypeFault
colour_by (N.Map _) = Err F.TypeFault
colour_by (N.Bool _) = Err F.TypeFault
colour_by N.Null = Err F.TypeFault
colour_by (N.Args _ _) = Err F.TypeFault

-- the colour that a value is
unfoldable pub colour_of : Plain → Result Rgba FnFault
colour_of value = colour_by (node_of value)

-- the one argument, a colour
unfoldable pub one_colour : List Argument → Result Rgba FnFault
one_colour args = with (one args) colour_of

-- the value of a colour
abbrev pub coloured : Rgba → Answer
coloured colour = within (P.Colour colour)
