-- Signs, operators, constants and brackets as they are written (Sass reference documentation, "Operators").
use Rattle.std.specs.Prelude.{ℕ, List, [], codes}
use Rattle.sw_tree.specs.declared.expr.Around.{Around}
use Rattle.sw_tree.specs.declared.expr.Around.TheVariants as arounds
use Rattle.sw_tree.specs.declared.expr.Constant.{Constant}
use Rattle.sw_tree.specs.declared.expr.Constant.TheVariants as constants
use Rattle.sw_tree.specs.declared.expr.Operator.{Operator}
use Rattle.sw_tree.specs.declared.expr.Operator.TheVariants as operators
use Rattle.sw_tree.specs.declared.expr.Sign.{Sign}
use Rattle.sw_tree.specs.declared.expr.Sign.TheVariants as signs

-- a sign has a space behind it
abbrev pub sign_text : Sign → List ℕ
sign_text signs.Not = codes "not "
sign_text signs.Plus = codes "+ "
sign_text signs.Minus = codes "- "
sign_text signs.Slash = codes "/ "

-- and so has an operator
abbrev pub operator_text : Operator → List ℕ
operator_text operators.Or = codes "or "
operator_text operators.And = codes "and "
operator_text operators.Equal = codes "== "
operator_text operators.NotEqual = codes "!= "
operator_text operators.Less = codes "< "
operator_text operators.LessEqual = codes "<= "
operator_text operators.Greater = codes "> "
operator_text operators.GreaterEqual = codes ">= "
operator_text operators.Plus = codes "+ "
operator_text operators.Minus = codes "- "
operator_text operators.Times = codes "* "
operator_text operators.Divide = codes "/ "
operator_text operators.Modulo = codes "% "

abbrev pub constant_text : Constant → List ℕ
constant_text constants.True = codes "true"
constant_text constants.False = codes "false"
constant_text constants.Null = codes "null"

-- what stands around a list
abbrev pub opening : Around → List ℕ
opening arounds.Nothing = []
opening arounds.Parens = codes "("
opening arounds.Brackets = codes "["

abbrev pub closing : Around → List ℕ
closing arounds.Nothing = []
closing arounds.Parens = codes ")"
closing arounds.Brackets = codes "]"
