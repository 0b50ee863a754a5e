-- What values are (Sass reference documentation, "sass:meta": type-of, inspect, keywords).
use Rattle.std.specs.Prelude.{◌≡◌, ◌<◌, ◌≤◌, ℕ, nat_lt, false, List, length, map, codes, Result, Ok, Err, if◌then◌else◌}
use Rattle.sw_values.specs.declared.plain.Plain.{Plain}
use Rattle.sw_values.specs.declared.plain.Plain.TheVariants as P
use Rattle.sw_values.specs.declared.value.Node.{Node}
use Rattle.sw_values.specs.declared.value.Node.TheVariants as N
use Rattle.sw_values.specs.Shape.{node_of}
use Rattle.sw_values.specs.Inspected.{said}
use Rattle.sw_values.specs.Weight.{most}
use Rattle.sw_fn_call.specs.declared.fault.FnFault.{FnFault}
use Rattle.sw_fn_call.specs.declared.fault.FnFault.TheVariants as F
use Rattle.sw_fn_call.specs.Answers.{Answer, with, within}
use Rattle.sw_fn_call.specs.Arguments.{Argument, one}
use Rattle.sw_fn_map.specs.Pairs.{Pair, map_value}

abbrev pub kind_name_by : Node → List ℕ
kind_name_by (N.Number _) = codes "number"
kind_name_by (N.Text _ _) = codes "string"
kind_name_by (N.Colour _) = codes "color"
kind_name_by (N.List _ _ _) = codes "list"
kind_name_by (N.Map _) = codes "map"
kind_name_by (N.Bool _) = codes "bool"
kind_name_by N.Null = codes "null"
kind_name_by (N.Args _ _) = codes "arglist"

unfoldable pub kind_name : Plain → List ℕ
kind_name value = kind_name_by (node_of value)

-- the name of its kind, as an unquoted string
abbrev pub type_of : List Argument → Answer
type_of args = with (one args) (λ value. within (P.Text (kind_name value) false))

abbrev pub inspected : Plain → Answer
inspected value =
    if nat_lt (length (said value).text) most then within (P.Text (said value).text false) else Err F.TooLarge

-- a text, or why it isn't there
abbrev pub IsInspectedText : Result (List ℕ) FnFault → List ℕ → Type 0
IsInspectedText (Ok seen) text = (seen ≡ text) × (length seen < most)
IsInspectedText (Err F.TooLarge) text = most ≤ length text
IsInspectedText (Err F.Memory) text = Unit {0}
IsInspectedText (Err _) text = ⊥

-- its text in messages, as an unquoted string
abbrev pub inspect : List Argument → Answer
inspect args = with (one args) inspected

abbrev pub named_by : Node → Result (List Argument) FnFault
named_by (N.Number _) = Err F.TypeFault
named_by (N.Text _ _) = Err F.TypeFault
named_by (N.Colour _) = Err F.TypeFault
named_by (N.List _ _ _) = Err F.TypeFault
named_by (N.Map _) = Err F.TypeFault
named_by (N.Bool _) = Err F.TypeFault
named_by N.Null = Err F.TypeFault
named_by (N.Args items named) = Ok named

-- the arguments with names of an argument list
unfoldable pub named_of : Plain → Result (List Argument) FnFault
named_of value = named_by (node_of value)

abbrev pub keyed : Argument → Pair
keyed argument = (P.Text argument.0 false, argument.1)

-- their map, whose keys are unquoted strings
abbrev pub keywords : List Argument → Answer
keywords args = with (one args) (λ value. with (named_of value) (λ named. map_value (map keyed named)))
