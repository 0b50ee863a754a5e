-- What signs and operators make of operands that were evaluated (the Sass specification on operators; places of faults
-- are this project's own).
use Rattle.std.specs.Prelude.{Bool, true, false, not, ◌&&◌, if◌then◌else◌, List, [], ◌∷◌, Option, Some, None, Ok}
use Rattle.sw_text.specs.declared.place.Span.{Span}
use Rattle.sw_units.specs.declared.number.Number.{Number}
use Rattle.sw_values.specs.declared.plain.Plain.{Plain}
use Rattle.sw_values.specs.Shape.{truth_of}
use Rattle.sw_ops.specs.declared.two_sides.Op2.{Op2}
use Rattle.sw_ops.specs.declared.two_sides.Op2.TheVariants as two
use Rattle.sw_ops.specs.declared.one_side.Op1.{Op1}
use Rattle.sw_ops.specs.declared.one_side.Op1.TheVariants as unaries
use Rattle.sw_ops.specs.Operators.{binary, unary, takes_sides}
use Rattle.sw_ops.specs.Sides.{number_in, kept_quotient}
use Rattle.sw_tree.specs.declared.expr.Expr.{Expr}
use Rattle.sw_tree.specs.declared.expr.Operator.{Operator}
use Rattle.sw_tree.specs.declared.expr.Operator.TheVariants as operators
use Rattle.sw_tree.specs.declared.expr.Sign.{Sign}
use Rattle.sw_tree.specs.declared.expr.Sign.TheVariants as prefixes
use Rattle.sw_eval_literals.specs.declared.chain.Left.{Left}
use Rattle.sw_eval_literals.specs.declared.quotients.Parens.{Parens}
use Rattle.sw_eval_literals.specs.Answers.{Answer, of_op, with}
use Rattle.sw_eval_literals.specs.Quotients.{may_keep, is_literal, plain_at}

-- ---- operators

-- what computes a value of two; `and` and `or` compute none
abbrev pub operation_of : Operator → Option Op2
operation_of operators.Or = None
operation_of operators.And = None
operation_of operators.Equal = Some two.Equal
operation_of operators.NotEqual = Some two.NotEqual
operation_of operators.Less = Some two.Less
operation_of operators.LessEqual = Some two.LessEqual
operation_of operators.Greater = Some two.Greater
operation_of operators.GreaterEqual = Some two.GreaterEqual
operation_of operators.Plus = Some two.Add
operation_of operators.Minus = Some two.Sub
operation_of operators.Times = Some two.Mul
operation_of operators.Divide = Some two.Div
operation_of operators.Modulo = Some two.Rem

abbrev pub divides_by : Option Op2 → Bool
divides_by (Some two.Div) = true
divides_by (Some _) = false
divides_by None = false

abbrev pub is_division : Operator → Bool
is_division operator = divides_by (operation_of operator)

abbrev pub sides_by : Option Op2 → Bool
sides_by (Some op) = takes_sides op
sides_by None = false

-- whether an operand is taken with the sides that it keeps, as `==` and `!=` do
abbrev pub with_sides : Operator → Bool
with_sides operator = sides_by (operation_of operator)

-- the value of an operand, which stands here, as the operator takes it
abbrev pub operand : Operator → Plain → Span → Answer Plain
operand operator value span = if with_sides operator then Ok value else plain_at value span

-- whether the right operand is evaluated
abbrev pub needs_right : Operator → Plain → Bool
needs_right operators.And left = truth_of left
needs_right operators.Or left = not (truth_of left)
needs_right operators.Equal left = true
needs_right operators.NotEqual left = true
needs_right operators.Less left = true
needs_right operators.LessEqual left = true
needs_right operators.Greater left = true
needs_right operators.GreaterEqual left = true
needs_right operators.Plus left = true
needs_right operators.Minus left = true
needs_right operators.Times left = true
needs_right operators.Divide left = true
needs_right operators.Modulo left = true

abbrev pub computed_by : Option Op2 → Plain → Plain → Span → Answer Plain
computed_by (Some op) left right span = of_op span (binary op left right)
computed_by None left right span = Ok right

-- `and` and `or` pass the right operand on where it is evaluated
unfoldable pub computed : Operator → Plain → Plain → Span → Answer Plain
computed operator left right span = computed_by (operation_of operator) left right span

-- ---- chains of operands

-- the first operand
unfoldable pub first_left : Plain → Expr → Parens → Left
first_left value first parens =
    record { value = value; span = first.span; literal = may_keep parens && is_literal first }

-- whether the next operator makes a quotient that keeps its sides
abbrev pub keeps_sides : Left → Operator → Expr → Bool
keeps_sides left operator next = left.literal && is_division operator && is_literal next

abbrev pub valued : Left → Plain → Left
valued left value = record { value = value; span = left.span; literal = left.literal }

-- the left side without the sides of a quotient
abbrev pub without_sides : Left → Answer Left
without_sides left = with (plain_at left.value left.span) (λ value. Ok (valued left value))

-- the left side as the next operator takes it, before its right operand is evaluated
unfoldable pub taken : Left → Operator → Expr → Answer Left
taken left operator next =
    if keeps_sides left operator next then Ok left
    else with (operand operator left.value left.span) (λ value. Ok (valued left value))

abbrev pub kept_by : Option Number → Option Number → Plain → Plain → Span → Answer Plain
kept_by (Some x) (Some y) left right span = of_op span (kept_quotient x y)
kept_by (Some x) None left right span = of_op span (binary two.Div left right)
kept_by None y left right span = of_op span (binary two.Div left right)

-- literals and their quotients are numbers
unfoldable pub kept : Plain → Plain → Span → Answer Plain
kept left right span = kept_by (number_in left) (number_in right) left right span

-- the value of both sides where the right one, at the first place, loses the sides of a quotient
abbrev pub of_quotient : Left → Operator → Plain → Span → Span → Answer Plain
of_quotient left operator right right_span span =
    with (plain_at right right_span) (λ value. computed operator left.value value span)

-- the value of both sides: the right one stands at the first place, the chain at the second
abbrev pub of_both : Left → Operator → Plain → Expr → Span → Answer Plain
of_both left operator right next span =
    if keeps_sides left operator next then kept left.value right span
    else with (operand operator right next.span) (λ value. computed operator left.value value span)

-- what stands left of the operator behind, if any
unfoldable pub joined_to : Left → Operator → Plain → Expr → Span → Answer Left
joined_to left operator right next span =
    with (of_both left operator right next span)
    (λ value. Ok (record { value = value; span = span; literal = keeps_sides left operator next }))

-- ---- signs

abbrev pub sign_of : Sign → Op1
sign_of prefixes.Not = unaries.Not
sign_of prefixes.Plus = unaries.Plus
sign_of prefixes.Minus = unaries.Minus
sign_of prefixes.Slash = unaries.Slash

-- the innermost sign, which comes last, is the first that counts
abbrev pub signed : List Sign → Plain → Span → Answer Plain
signed [] value span = Ok value
signed (sign ∷ signs) value span = with (signed signs value span) (λ inner. of_op span (unary (sign_of sign) inner))

-- an operand, which stands at the first place, with the signs before it
unfoldable pub prefixed : List Sign → Plain → Span → Span → Answer Plain
prefixed signs value operand_span span = with (plain_at value operand_span) (λ plain. signed signs plain span)
