-- What operators make of values (the Sass specification on operators; where it leaves a choice, and for the faults,
-- this project's own rules).
use Rattle.std.specs.Prelude.{ℕ, Bool, true, false, not, ◌&&◌, ◌||◌, if◌then◌else◌, List, [], codes, neg_ℤ, Option, Some, None, is_some, Result, Ok, Err}
use Rattle.std.specs.declared.cmp.Ordering.{Ordering}
use Rattle.std.specs.Ordering.{is_lt, is_le, is_gt, is_ge}
use Rattle.sw_fixed.specs.declared.fault.NumberFault.{NumberFault}
use Rattle.sw_units.specs.declared.number.Number.{Number}
use Rattle.sw_units.specs.Numbers.{sum, difference, product, quotient, modulo, comparison, plain as without_sides}
use Rattle.sw_values.specs.declared.plain.Plain.{Plain}
use Rattle.sw_values.specs.declared.plain.Plain.TheVariants as P
use Rattle.sw_values.specs.Equality.{is_equal}
use Rattle.sw_values.specs.Shape.{truth_of}
use Rattle.sw_values.specs.Texts.{shown, shown_as}
use Rattle.sw_ops.specs.declared.two_sides.Op2.{Op2}
use Rattle.sw_ops.specs.declared.two_sides.Op2.TheVariants as two
use Rattle.sw_ops.specs.declared.two_sides.Relation.{Relation}
use Rattle.sw_ops.specs.declared.two_sides.Relation.TheVariants as relations
use Rattle.sw_ops.specs.declared.joining.Sign.{Sign}
use Rattle.sw_ops.specs.declared.joining.Sign.TheVariants.{Plus, Minus, Slash}
use Rattle.sw_ops.specs.declared.one_side.Op1.{Op1}
use Rattle.sw_ops.specs.declared.one_side.Op1.TheVariants as one
use Rattle.sw_ops.specs.declared.fault.OpFault.TheVariants as F
use Rattle.sw_ops.specs.Answers.{Answer, fault_of, of_number, with}
use Rattle.sw_ops.specs.Sides.{number_in, is_colour, quotes_in, plain}
use Rattle.sw_ops.specs.Joined.{bare, joined}

-- ---- `+`, `-` and `/`

abbrev pub computed : Sign → Number → Number → Result Number NumberFault
computed Plus x y = sum x y
computed Minus x y = difference x y
computed Slash x y = quotient x y

-- what stands between two texts
abbrev pub sign_between : Sign → List ℕ
sign_between Plus = []
sign_between Minus = codes "-"
sign_between Slash = codes "/"

-- a colour with a colour or a number
abbrev pub clash : Plain → Plain → Bool
clash a b = (is_colour a && (is_colour b || is_some (number_in b))) || (is_some (number_in a) && is_colour b)

-- the texts in CSS, without quotes round them
abbrev pub spelled : Sign → Plain → Plain → Answer
spelled sign a b = joined false (sign_between sign) (shown true a) (shown true b)

-- sides of which one is no number
abbrev pub unlike : Sign → Plain → Plain → Answer
unlike sign a b = if clash a b then Err F.TypeFault else spelled sign a b

abbrev pub arithmetic_by : Sign → Plain → Plain → Option Number → Option Number → Answer
arithmetic_by sign a b (Some x) (Some y) = of_number (computed sign x y)
arithmetic_by sign a b (Some x) None = unlike sign a b
arithmetic_by sign a b None y = unlike sign a b

-- two numbers are computed, colours and numbers aren't, and of anything else the texts are joined
abbrev pub arithmetic : Sign → Plain → Plain → Answer
arithmetic sign a b = arithmetic_by sign a b (number_in a) (number_in b)

abbrev pub plus_by : Plain → Plain → Option Bool → Option Bool → Answer
plus_by a b (Some quoted) other = joined quoted [] (bare a) (bare b)
plus_by a b None (Some quoted) = joined quoted [] (bare a) (bare b)
plus_by a b None None = arithmetic Plus a b

-- with a string on a side both texts are joined, and quoted as the left string is, or else as the right one
abbrev pub plus : Plain → Plain → Answer
plus a b = plus_by a b (quotes_in a) (quotes_in b)

-- ---- what numbers alone have

abbrev pub on_numbers : (Number → Number → Answer) → Option Number → Option Number → Answer
on_numbers operation (Some x) (Some y) = operation x y
on_numbers operation (Some x) None = Err F.TypeFault
on_numbers operation None y = Err F.TypeFault

abbrev pub times : Plain → Plain → Answer
times a b = on_numbers (λ x y. of_number (product x y)) (number_in a) (number_in b)

abbrev pub remainder : Plain → Plain → Answer
remainder a b = on_numbers (λ x y. of_number (modulo x y)) (number_in a) (number_in b)

abbrev pub holds : Relation → Ordering → Bool
holds relations.Less order = is_lt order
holds relations.LessEqual order = is_le order
holds relations.Greater order = is_gt order
holds relations.GreaterEqual order = is_ge order

abbrev pub of_order : Relation → Result Ordering NumberFault → Answer
of_order relation (Ok order) = Ok (P.Bool (holds relation order))
of_order relation (Err fault) = Err (fault_of fault)

abbrev pub compared : Relation → Plain → Plain → Answer
compared relation a b = on_numbers (λ x y. of_order relation (comparison x y)) (number_in a) (number_in b)

-- ---- the operators

-- what an operator makes of sides that keep none of their own
abbrev pub operation : Op2 → Plain → Plain → Answer
operation two.Add a b = plus a b
operation two.Sub a b = arithmetic Minus a b
operation two.Mul a b = times a b
operation two.Div a b = arithmetic Slash a b
operation two.Rem a b = remainder a b
operation two.Less a b = compared relations.Less a b
operation two.LessEqual a b = compared relations.LessEqual a b
operation two.Greater a b = compared relations.Greater a b
operation two.GreaterEqual a b = compared relations.GreaterEqual a b
operation two.Equal a b = Ok (P.Bool (is_equal a b))
operation two.NotEqual a b = Ok (P.Bool (not (is_equal a b)))

-- `==` and `!=` take quotients with the sides that they keep
abbrev pub takes_sides : Op2 → Bool
takes_sides two.Add = false
takes_sides two.Sub = false
takes_sides two.Mul = false
takes_sides two.Div = false
takes_sides two.Rem = false
takes_sides two.Less = false
takes_sides two.LessEqual = false
takes_sides two.Greater = false
takes_sides two.GreaterEqual = false
takes_sides two.Equal = true
takes_sides two.NotEqual = true

-- the left side is made plain before the right one
unfoldable pub binary : Op2 → Plain → Plain → Answer
binary op a b =
    if takes_sides op then operation op a b else with (plain a) (λ x. with (plain b) (λ y. operation op x y))

-- a sign before a value's text
abbrev pub headed : List ℕ → Plain → Answer
headed sign a = joined false [] (shown_as sign) (shown true a)

abbrev pub unchanged_by : Plain → Option Number → Answer
unchanged_by a (Some number) = Ok a
unchanged_by a None = headed (codes "+") a

abbrev pub unchanged : Plain → Answer
unchanged a = unchanged_by a (number_in a)

abbrev pub negated_by : Plain → Option Number → Answer
negated_by a (Some number) = Ok (P.Number (without_sides number.units (neg_ℤ number.value)))
negated_by a None = headed (codes "-") a

abbrev pub negated : Plain → Answer
negated a = negated_by a (number_in a)

-- what an operator makes of a side that keeps none of its own
abbrev pub operation_on : Op1 → Plain → Answer
operation_on one.Plus a = unchanged a
operation_on one.Minus a = negated a
operation_on one.Slash a = headed (codes "/") a
operation_on one.Not a = Ok (P.Bool (not (truth_of a)))

unfoldable pub unary : Op1 → Plain → Answer
unary op a = with (plain a) (λ x. operation_on op x)
