-- The least and the greatest of numbers, and a number between two others (Sass reference documentation, "sass:math",
-- "Bounding Functions").
use Rattle.std.specs.Prelude.{Bool, true, false, not, ◌&&◌, ◌||◌, List, [], ◌∷◌, Result, Ok, Err, if◌then◌else◌}
use Rattle.std.specs.Ordering.{is_lt, is_gt}
use Rattle.std.specs.declared.cmp.Ordering.{Ordering}
use Rattle.sw_fixed.specs.declared.fault.NumberFault.{NumberFault}
use Rattle.sw_units.specs.declared.number.Number.{Number}
use Rattle.sw_units.specs.Numbers.{plain, comparison}
use Rattle.sw_units.specs.Units.{is_unitless}
use Rattle.sw_values.specs.declared.plain.Plain.{Plain}
use Rattle.sw_values.specs.declared.plain.Plain.TheVariants as P
use Rattle.sw_fn_call.specs.declared.fault.FnFault.{FnFault}
use Rattle.sw_fn_call.specs.declared.fault.FnFault.TheVariants as F
use Rattle.sw_fn_call.specs.Answers.{Answer, with, fault_of}
use Rattle.sw_fn_call.specs.Arguments.{Argument, one, three, rest}
use Rattle.sw_fn_call.specs.Kinds.{number_of}
use Rattle.sw_fn_math.specs.declared.extremes.Extreme.{Extreme}
use Rattle.sw_fn_math.specs.declared.extremes.Extreme.TheVariants.{Least, Greatest}

abbrev pub compared_by : Result Ordering NumberFault → Result Ordering FnFault
compared_by (Ok order) = Ok order
compared_by (Err fault) = Err (fault_of fault)

-- the order of two numbers, of which one may have no units
abbrev pub compared : Number → Number → Result Ordering FnFault
compared a b = compared_by (comparison a b)

-- the number itself, without the sides that a quotient keeps
abbrev pub plain_of : Number → Answer
plain_of number = Ok (P.Number (plain number.units number.value))

-- ---- the least and the greatest

-- whether a number takes the place of the one so far, which is less, equal or greater: of equal ones the first stays
abbrev pub replaces : Extreme → Ordering → Bool
replaces Least order = is_gt order
replaces Greatest order = is_lt order

-- the number so far, or the next value in its place
unfoldable pub further : Extreme → Number → Plain → Result Number FnFault
further extreme best value =
    with (number_of value)
    (λ next. with (compared best next) (λ order. Ok (if replaces extreme order then next else best)))

abbrev pub extreme_from : Extreme → Number → List Plain → Result Number FnFault
extreme_from extreme best [] = Ok best
extreme_from extreme best (value ∷ values) =
    with (further extreme best value) (λ next. extreme_from extreme next values)

-- of one number at least
abbrev pub extreme_of : Extreme → List Plain → Answer
extreme_of extreme [] = Err F.ArgumentFault
extreme_of extreme (value ∷ values) =
    with (number_of value) (λ first. with (extreme_from extreme first values) plain_of)

abbrev pub extreme_among : Extreme → List Argument → Answer
extreme_among extreme args = with (one args) (λ value. with (rest value) (extreme_of extreme))

abbrev pub min : List Argument → Answer
min args = extreme_among Least args

abbrev pub max : List Argument → Answer
max args = extreme_among Greatest args

-- ---- a number between two others

pub record Bounds : Type 0 where
  pub min : Number
  pub number : Number
  pub max : Number

-- the three arguments, which are numbers
unfoldable pub bounds_of : List Argument → Result Bounds FnFault
bounds_of args =
    with (three args)
    (λ values. with (number_of values.0)
    (λ min. with (number_of values.1)
    (λ number. with (number_of values.2) (λ max. Ok (record { min = min; number = number; max = max })))))

-- all have units, or none has
abbrev pub are_alike : Bool → Bool → Bool → Bool
are_alike true second third = second && third
are_alike false second third = not second && not third

-- the lower bound where it isn't below the upper one or the number, else the upper bound where the number isn't below
-- it, else the number
abbrev pub between : Bounds → Ordering → Ordering → Ordering → Number
between bounds of_bounds above_min below_max =
    if not (is_lt of_bounds) || not (is_lt above_min) then bounds.min
    else if is_lt below_max then bounds.number
    else bounds.max

abbrev pub clamped : Bounds → Answer
clamped bounds =
    if are_alike (is_unitless bounds.min.units) (is_unitless bounds.number.units) (is_unitless bounds.max.units) then
    with (compared bounds.min bounds.max)
    (λ of_bounds. with (compared bounds.min bounds.number)
    (λ above_min. with (compared bounds.number bounds.max)
    (λ below_max. plain_of (between bounds of_bounds above_min below_max))))
    else Err F.UnitFault

-- the answer keeps its own units
abbrev pub clamp : List Argument → Answer
clamp args = with (bounds_of args) clamped
