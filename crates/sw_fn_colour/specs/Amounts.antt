-- Numbers as amounts of a colour's parts (CSS Color Level 4, "RGB Colors" and "HSL Colors"; Sass reference
-- documentation, "sass:color").
use Rattle.std.specs.Prelude.{ℕ, ◌*◌, ◌≤◌, min, nat_le, ◌==◌, ℤ, pos, unsigned_abs, Bool, true, false, List, codes, bytes_eq, Option, Some, None, Result, Ok, Err, if◌then◌else◌}
use Rattle.sw_fixed.specs.declared.fault.NumberFault.{NumberFault}
use Rattle.sw_fixed.specs.Arithmetic.{scale, signed, is_below_zero, nearest_natural, scaled_of}
use Rattle.sw_units.specs.declared.units.UnitNames.{UnitNames}
use Rattle.sw_units.specs.declared.units.UnitNames.TheVariants.{One, Empty}
use Rattle.sw_units.specs.declared.units.Units.{Units}
use Rattle.sw_units.specs.declared.measure.Family.{Family}
use Rattle.sw_units.specs.declared.measure.Family.TheVariants.{Length, Angle, Time, Frequency, Resolution}
use Rattle.sw_units.specs.declared.measure.Measure.{Measure}
use Rattle.sw_units.specs.declared.number.Number.{Number}
use Rattle.sw_units.specs.Measures.{measure_of}
use Rattle.sw_units.specs.Units.{is_unitless}
use Rattle.sw_colour.specs.Hues.{hundred}
use Rattle.sw_values.specs.declared.plain.Plain.{Plain}
use Rattle.sw_values.specs.declared.value.Node.{Node}
use Rattle.sw_values.specs.declared.value.Node.TheVariants as N
use Rattle.sw_values.specs.Shape.{node_of}
use Rattle.sw_fn_call.specs.declared.fault.FnFault.{FnFault}
use Rattle.sw_fn_call.specs.declared.fault.FnFault.TheVariants as F
use Rattle.sw_fn_call.specs.Answers.{with, fault_of}
use Rattle.sw_fn_call.specs.Kinds.{number_of}
use Rattle.sw_fn_colour.specs.declared.amounts.Amount.{Amount}
use Rattle.sw_fn_colour.specs.declared.amounts.Amount.TheVariants as A

-- ---- percents

abbrev pub percent_by : UnitNames → UnitNames → Bool
percent_by (One unit) Empty = bytes_eq unit (codes "%")
percent_by _ _ = false

-- percents and nothing else
abbrev pub is_percent : Units → Bool
is_percent units = percent_by units.over units.under

-- so many percent of 255, rounded once; beyond a hundred they are as many as a hundred, since a channel is clamped
abbrev pub of_channel : ℤ → ℤ
of_channel percent =
    signed (is_below_zero percent) (nearest_natural (min (unsigned_abs percent) hundred * 255) 100)

-- so many percent of one, rounded once
abbrev pub of_one : ℤ → ℤ
of_one percent = signed (is_below_zero percent) (nearest_natural (unsigned_abs percent) 100)

-- ---- the amounts

-- red, green or blue
abbrev pub channel_amount : Number → Result ℤ FnFault
channel_amount number =
    if is_unitless number.units then Ok number.value
    else if is_percent number.units then Ok (of_channel number.value)
    else Err F.ArgumentFault

abbrev pub alpha_amount : Number → Result ℤ FnFault
alpha_amount number =
    if is_unitless number.units then Ok number.value
    else if is_percent number.units then Ok (of_one number.value)
    else Err F.ArgumentFault

-- saturation or lightness: a number without units is percents too
abbrev pub percent_amount : Number → Result ℤ FnFault
percent_amount number =
    if is_unitless number.units then Ok number.value
    else if is_percent number.units then Ok number.value
    else Err F.ArgumentFault

abbrev pub value_of : Result ℤ NumberFault → Result ℤ FnFault
value_of (Ok value) = Ok value
value_of (Err fault) = Err (fault_of fault)

-- so many of an angle's unit, of which so many make a turn, in degrees
abbrev pub turned : ℤ → ℕ → Family → Result ℤ FnFault
turned value count Length = Ok value
turned value count Angle = value_of (scaled_of value 360 count)
turned value count Time = Ok value
turned value count Frequency = Ok value
turned value count Resolution = Ok value

abbrev pub degrees_by : ℤ → Option Measure → Result ℤ FnFault
degrees_by value None = Ok value
degrees_by value (Some found) = turned value found.count found.family

-- radians are refused, as their part of a turn is no fraction
abbrev pub degrees : ℤ → List ℕ → Result ℤ FnFault
degrees value unit = if bytes_eq unit (codes "rad") then Err F.ArgumentFault else degrees_by value (measure_of unit)

abbrev pub hue_by : ℤ → UnitNames → UnitNames → Result ℤ FnFault
hue_by value (One unit) Empty = degrees value unit
hue_by value _ _ = Ok value

-- a hue in degrees; units that are no angle are passed over
abbrev pub hue_amount : Number → Result ℤ FnFault
hue_amount number = hue_by number.value number.units.over number.units.under

unfoldable pub amount_of : Amount → Number → Result ℤ FnFault
amount_of A.Channel number = channel_amount number
amount_of A.Alpha number = alpha_amount number
amount_of A.Percent number = percent_amount number
amount_of A.Hue number = hue_amount number

-- ---- amounts with bounds

-- from 0 to a top
abbrev pub up_to : ℕ → ℤ → Result ℤ FnFault
up_to top value =
    if is_below_zero value then Err F.ArgumentFault
    else if nat_le (unsigned_abs value) top then Ok value
    else Err F.ArgumentFault

-- a part of the way to the greatest or the least value: from -100 to 100 percent
abbrev pub part_amount : Number → Result ℤ FnFault
part_amount number =
    if is_percent number.units
    then (if nat_le (unsigned_abs number.value) hundred then Ok number.value else Err F.ArgumentFault)
    else Err F.ArgumentFault

-- ---- arguments

-- an argument that is an amount
unfoldable pub given : Amount → Plain → Result ℤ FnFault
given amount value = with (number_of value) (amount_of amount)

-- an argument from 0 to a hundred, whose units are passed over
unfoldable pub weight_of : Plain → Result ℤ FnFault
weight_of value = with (number_of value) (λ number. up_to hundred number.value)

-- an argument that is a part of alpha: from 0 to 1
unfoldable pub opacity_of : Plain → Result ℤ FnFault
opacity_of value = with (given A.Alpha value) (up_to scale)

abbrev pub optional_by : Result ℤ FnFault → Node → Result (Option ℤ) FnFault
optional_by amount (N.Number _) = with amount (λ value. Ok (Some value))
optional_by amount (N.Text _ _) = Err F.TypeFault
optional_by amount (N.Colour _) = Err F.TypeFault
optional_by amount (N.List _ _ _) = Err F.TypeFault
optional_by amount (N.Map _) = Err F.TypeFault
optional_by amount (N.Bool _) = Err F.TypeFault
optional_by amount N.Null = Ok None
optional_by amount (N.Args _ _) = Err F.TypeFault

-- null is as not given
unfoldable pub optional : Amount → Plain → Result (Option ℤ) FnFault
optional amount value = optional_by (given amount value) (node_of value)

unfoldable pub optional_part : Plain → Result (Option ℤ) FnFault
optional_part value = optional_by (with (number_of value) part_amount) (node_of value)

abbrev pub null_by : Node → Bool
null_by (N.Number _) = false
null_by (N.Text _ _) = false
null_by (N.Colour _) = false
null_by (N.List _ _ _) = false
null_by (N.Map _) = false
null_by (N.Bool _) = false
null_by N.Null = true
null_by (N.Args _ _) = false

abbrev pub is_null : Plain → Bool
is_null value = null_by (node_of value)
