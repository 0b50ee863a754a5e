-- Texts that operators make of the texts of their sides.
use Rattle.std.specs.Prelude.{ℕ, Bool, false, ◌&&◌, if◌then◌else◌, List, ◌++◌, length, ◌≤◌, ◌≡◌, Result, Ok, Err}
use Rattle.sw_values.specs.declared.plain.Plain.{Plain}
use Rattle.sw_values.specs.declared.plain.Plain.TheVariants as P
use Rattle.sw_values.specs.declared.value.Node.{Node}
use Rattle.sw_values.specs.declared.value.Node.TheVariants as N
use Rattle.sw_values.specs.Shape.{node_of}
use Rattle.sw_values.specs.Texts.{Shown, shown, shown_as}
use Rattle.sw_values.specs.Weight.{most}
use Rattle.sw_ops.specs.declared.fault.OpFault.{OpFault}
use Rattle.sw_ops.specs.declared.fault.OpFault.TheVariants as F
use Rattle.sw_ops.specs.Answers.{Answer}
use Rattle.sw_ops.specs.Sides.{within}

abbrev pub bare_by : Shown → Node → Shown
bare_by other (N.Text text _) = shown_as text
bare_by other (N.Number _) = other
bare_by other (N.Colour _) = other
bare_by other (N.List _ _ _) = other
bare_by other (N.Map _) = other
bare_by other (N.Bool _) = other
bare_by other N.Null = other
bare_by other (N.Args _ _) = other

-- a string's own text, and any other value's text in CSS without quotes
abbrev pub bare : Plain → Shown
bare value = bare_by (shown false value) (node_of value)

-- both texts with a sign between them; a side that can't be written comes before a text that is too heavy
abbrev pub joined : Bool → List ℕ → Shown → Shown → Answer
joined quoted sign left right =
    if left.css && right.css then within (P.Text (left.text ++ sign ++ right.text) quoted) else Err F.NotCss

-- a side's text, or that it is too heavy for a value
abbrev pub IsText : Result (List ℕ) OpFault → List ℕ → Type 0
IsText (Ok seen) text = seen ≡ text
IsText (Err F.Memory) text = Unit {0}
IsText (Err F.TooLarge) text = most ≤ length text
IsText (Err _) text = ⊥
