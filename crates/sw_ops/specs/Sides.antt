-- What operators see of their sides.
use Rattle.std.specs.Prelude.{ℤ, pos, unsigned_abs, ◌==◌, Bool, true, false, if◌then◌else◌, Option, Some, None, Result, Ok, Err}
use Rattle.sw_units.specs.declared.units.UnitNames.TheVariants.{Empty}
use Rattle.sw_units.specs.declared.number.Number.{Number}
use Rattle.sw_units.specs.declared.number.Slash.{Slash, out-Slash}
use Rattle.sw_units.specs.declared.number.Slash.TheVariants as S
use Rattle.sw_units.specs.declared.number.Slash.TheOpen.{Slash-F}
use Rattle.sw_units.specs.Numbers.{plain as without_sides, quotient}
use Rattle.sw_fixed.specs.declared.fault.NumberFault.{NumberFault}
use Rattle.sw_values.specs.declared.plain.Plain.{Plain}
use Rattle.sw_values.specs.declared.plain.Plain.TheVariants as P
use Rattle.sw_values.specs.declared.value.Node.{Node}
use Rattle.sw_values.specs.declared.value.Node.TheVariants as N
use Rattle.sw_values.specs.Shape.{node_of}
use Rattle.sw_values.specs.Weight.{is_within}
use Rattle.sw_ops.specs.declared.fault.OpFault.{OpFault}
use Rattle.sw_ops.specs.declared.fault.OpFault.TheVariants as F
use Rattle.sw_ops.specs.Answers.{Answer, fault_of}

-- ---- kinds

abbrev pub number_by : Node → Option Number
number_by (N.Number number) = Some number
number_by (N.Text _ _) = None
number_by (N.Colour _) = None
number_by (N.List _ _ _) = None
number_by (N.Map _) = None
number_by (N.Bool _) = None
number_by N.Null = None
number_by (N.Args _ _) = None

-- the number that a value is
abbrev pub number_in : Plain → Option Number
number_in value = number_by (node_of value)

abbrev pub colour_by : Node → Bool
colour_by (N.Number _) = false
colour_by (N.Text _ _) = false
colour_by (N.Colour _) = true
colour_by (N.List _ _ _) = false
colour_by (N.Map _) = false
colour_by (N.Bool _) = false
colour_by N.Null = false
colour_by (N.Args _ _) = false

abbrev pub is_colour : Plain → Bool
is_colour value = colour_by (node_of value)

abbrev pub quotes_by : Node → Option Bool
quotes_by (N.Number _) = None
quotes_by (N.Text _ quoted) = Some quoted
quotes_by (N.Colour _) = None
quotes_by (N.List _ _ _) = None
quotes_by (N.Map _) = None
quotes_by (N.Bool _) = None
quotes_by N.Null = None
quotes_by (N.Args _ _) = None

-- whether a string is quoted; none where the value is no string
abbrev pub quotes_in : Plain → Option Bool
quotes_in value = quotes_by (node_of value)

-- ---- quotients that keep their sides

abbrev pub is_zero : ℤ → Bool
is_zero value = unsigned_abs value == 0

-- a quotient over zero has no plain value
abbrev pub plain_by : Number → Slash-F Slash Number → Result Number OpFault
plain_by number Slash-F.Plain = Ok number
plain_by number (Slash-F.Sides sides) =
    if is_zero sides.1.value then Err F.DivideByZero else Ok (without_sides number.units number.value)

-- the number without the sides that a quotient keeps
unfoldable pub plain_number : Number → Result Number OpFault
plain_number number = plain_by number (out-Slash number.slash)

abbrev pub held : Result Number OpFault → Answer
held (Ok number) = Ok (P.Number number)
held (Err fault) = Err fault

abbrev pub plain_in : Plain → Option Number → Answer
plain_in value (Some number) = held (plain_number number)
plain_in value None = Ok value

-- the value without the sides that a quotient keeps
abbrev pub plain : Plain → Answer
plain value = plain_in value (number_in value)

abbrev pub has_sides : Slash-F Slash Number → Bool
has_sides Slash-F.Plain = false
has_sides (Slash-F.Sides sides) = true

-- whether the number is a quotient that keeps its sides
unfoldable pub sides_in : Number → Bool
sides_in number = has_sides (out-Slash number.slash)

abbrev pub sides_by : Option Number → Bool
sides_by (Some number) = sides_in number
sides_by None = false

-- whether the value is one
abbrev pub keeps_sides : Plain → Bool
keeps_sides value = sides_by (number_in value)

-- ---- quotients of two literals

abbrev pub within : Plain → Answer
within value = if is_within value then Ok value else Err F.TooLarge

-- what counts of it for everything but its text, with these sides
abbrev pub sides_of : Number → Number → Number → Answer
sides_of left right number =
    within (P.Number (record { value = number.value; units = number.units; slash = S.Sides (left, right) }))

abbrev pub zero : Number
zero = without_sides (record { over = Empty; under = Empty }) (pos 0)

abbrev pub kept_of : Number → Number → Result Number NumberFault → Answer
kept_of left right (Ok number) = sides_of left right number
kept_of left right (Err fault) = Err (fault_of fault)

abbrev pub kept_by : Number → Number → Result Number OpFault → Answer
kept_by left right (Ok number) =
    if is_zero right.value then sides_of left right zero else kept_of left right (quotient number right)
kept_by left right (Err fault) = Err fault

-- a quotient that keeps its two sides; over zero it counts as 0
unfoldable pub kept_quotient : Number → Number → Answer
kept_quotient left right = kept_by left right (plain_number left)
