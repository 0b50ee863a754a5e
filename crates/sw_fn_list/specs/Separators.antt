-- Separators and brackets (Sass reference documentation, "sass:list").
use Rattle.std.specs.Prelude.{ℕ, Bool, true, false, List, codes, bytes_eq, Option, Some, None, Result, Ok, Err, if◌then◌else◌}
use Rattle.sw_values.specs.declared.plain.Plain.{Plain}
use Rattle.sw_values.specs.declared.plain.Plain.TheVariants as P
use Rattle.sw_values.specs.declared.plain.Separator.{Separator}
use Rattle.sw_values.specs.declared.plain.Separator.TheVariants as S
use Rattle.sw_values.specs.declared.value.Node.{Node}
use Rattle.sw_values.specs.declared.value.Node.TheVariants as N
use Rattle.sw_values.specs.Shape.{node_of, truth_of}
use Rattle.sw_fn_call.specs.declared.fault.FnFault.{FnFault}
use Rattle.sw_fn_call.specs.declared.fault.FnFault.TheVariants as F
use Rattle.sw_fn_call.specs.Answers.{Answer, with, within}
use Rattle.sw_fn_call.specs.Arguments.{Argument, one}
use Rattle.sw_fn_call.specs.Kinds.{text_of}
use Rattle.sw_fn_list.specs.Items.{separator_of, brackets_of, decided}

abbrev pub is_bracketed : List Argument → Answer
is_bracketed args = with (one args) (λ list. Ok (P.Bool (brackets_of list)))

-- a list that hasn't decided counts as one with spaces
abbrev pub separator_name : Separator → List ℕ
separator_name S.Undecided = codes "space"
separator_name S.Space = codes "space"
separator_name S.Comma = codes "comma"
separator_name S.Slash = codes "slash"

-- an unquoted string
abbrev pub separator : List Argument → Answer
separator args = with (one args) (λ list. within (P.Text (separator_name (separator_of list)) false))

-- ---- what a caller chooses

-- `auto` chooses none
abbrev pub separator_named : List ℕ → Result (Option Separator) FnFault
separator_named name =
    if bytes_eq name (codes "auto") then Ok None
    else if bytes_eq name (codes "space") then Ok (Some S.Space)
    else if bytes_eq name (codes "comma") then Ok (Some S.Comma)
    else if bytes_eq name (codes "slash") then Ok (Some S.Slash)
    else Err F.ArgumentFault

abbrev pub separator_chosen : Plain → Result (Option Separator) FnFault
separator_chosen value = with (text_of value) separator_named

abbrev pub is_auto_by : Node → Bool
is_auto_by (N.Number _) = false
is_auto_by (N.Text text _) = bytes_eq text (codes "auto")
is_auto_by (N.Colour _) = false
is_auto_by (N.List _ _ _) = false
is_auto_by (N.Map _) = false
is_auto_by (N.Bool _) = false
is_auto_by N.Null = false
is_auto_by (N.Args _ _) = false

-- brackets as the list has them, or else by whether the value counts as true
abbrev pub brackets_chosen : Plain → Plain → Bool
brackets_chosen list value = if is_auto_by (node_of value) then brackets_of list else truth_of value

abbrev pub or_else : Option Separator → Separator → Separator
or_else (Some separator) other = separator
or_else None other = other

-- that of the first list which has decided, else a space
abbrev pub separator_of_both : Plain → Plain → Separator
separator_of_both first second = or_else (decided first) (or_else (decided second) S.Space)

abbrev pub separator_of_one : Plain → Separator
separator_of_one list = or_else (decided list) S.Space
