-- What built-in functions see of a value.
use Rattle.std.specs.Prelude.{ℕ, Bool, true, false, List, Result, Ok, Err}
use Rattle.sw_units.specs.declared.number.Number.{Number}
use Rattle.sw_values.specs.declared.plain.Plain.{Plain}
use Rattle.sw_values.specs.declared.value.Node.{Node}
use Rattle.sw_values.specs.declared.value.Node.TheVariants as N
use Rattle.sw_values.specs.Shape.{node_of}
use Rattle.sw_fn_call.specs.declared.fault.FnFault.{FnFault}
use Rattle.sw_fn_call.specs.declared.fault.FnFault.TheVariants as F

abbrev pub number_by : Node → Result Number FnFault
number_by (N.Number number) = Ok number
number_by (N.Text _ _) = Err F.TypeFault
number_by (N.Colour _) = Err F.TypeFault
number_by (N.List _ _ _) = Err F.TypeFault
number_by (N.Map _) = Err F.TypeFault
number_by (N.Bool _) = Err F.TypeFault
number_by N.Null = Err F.TypeFault
number_by (N.Args _ _) = Err F.TypeFault

-- the number that a value is
unfoldable pub number_of : Plain → Result Number FnFault
number_of value = number_by (node_of value)

abbrev pub text_by : Node → Result (List ℕ) FnFault
text_by (N.Number _) = Err F.TypeFault
text_by (N.Text text _) = Ok text
text_by (N.Colour _) = Err F.TypeFault
text_by (N.List _ _ _) = Err F.TypeFault
text_by (N.Map _) = Err F.TypeFault
text_by (N.Bool _) = Err F.TypeFault
text_by N.Null = Err F.TypeFault
text_by (N.Args _ _) = Err F.TypeFault

-- the text of a string
unfoldable pub text_of : Plain → Result (List ℕ) FnFault
text_of value = text_by (node_of value)

abbrev pub quoted_by : Node → Bool
quoted_by (N.Number _) = false
quoted_by (N.Text _ quoted) = quoted
quoted_by (N.Colour _) = false
quoted_by (N.List _ _ _) = false
quoted_by (N.Map _) = false
quoted_by (N.Bool _) = false
quoted_by N.Null = false
quoted_by (N.Args _ _) = false

abbrev pub is_quoted : Plain → Bool
is_quoted value = quoted_by (node_of value)
