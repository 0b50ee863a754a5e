-- The operators, signs and constants that terminals stand for (Sass reference documentation, "Operators").
use Rattle.std.specs.Prelude.{ℕ, Option, Some, None}
use Rattle.sw_parse_terminals.specs.declared.lexeme.Lexeme.{Lexeme}
use Rattle.sw_parse_terminals.specs.declared.terminal.Terminal.{Terminal}
use Rattle.sw_parse_terminals.specs.declared.terminal.Terminal.TheVariants as terminals
use Rattle.sw_tree.specs.declared.expr.Operator.{Operator}
use Rattle.sw_tree.specs.declared.expr.Operator.TheVariants as operators
use Rattle.sw_tree.specs.declared.expr.Sign.{Sign}
use Rattle.sw_tree.specs.declared.expr.Sign.TheVariants as signs
use Rattle.sw_tree.specs.declared.expr.Constant.{Constant}
use Rattle.sw_tree.specs.declared.expr.Constant.TheVariants as constants
use Rattle.sw_parse_table.specs.declared.source.Source.{Source}
use Rattle.sw_parse_table.specs.Sources.{lexeme_at}

abbrev pub operator_of : Terminal → Operator
operator_of terminals.Or = operators.Or
operator_of terminals.And = operators.And
operator_of terminals.Equal = operators.Equal
operator_of terminals.NotEqual = operators.NotEqual
operator_of terminals.Less = operators.Less
operator_of terminals.LessEqual = operators.LessEqual
operator_of terminals.Greater = operators.Greater
operator_of terminals.GreaterEqual = operators.GreaterEqual
operator_of terminals.Plus = operators.Plus
operator_of terminals.Minus = operators.Minus
operator_of terminals.Times = operators.Times
operator_of terminals.Divide = operators.Divide
operator_of _ = operators.Modulo

abbrev pub sign_of : Terminal → Sign
sign_of terminals.PrefixPlus = signs.Plus
sign_of terminals.PrefixMinus = signs.Minus
sign_of terminals.PrefixSlash = signs.Slash
sign_of _ = signs.Not

abbrev pub constant_of : Terminal → Constant
constant_of terminals.True = constants.True
constant_of terminals.False = constants.False
constant_of _ = constants.Null

abbrev pub operator_in : Option Lexeme → Operator
operator_in None = operators.Modulo
operator_in (Some lexeme) = operator_of lexeme.terminal

abbrev pub sign_in : Option Lexeme → Sign
sign_in None = signs.Not
sign_in (Some lexeme) = sign_of lexeme.terminal

abbrev pub constant_in : Option Lexeme → Constant
constant_in None = constants.Null
constant_in (Some lexeme) = constant_of lexeme.terminal

module _ (source : Source) where
  abbrev pub operator_at : ℕ → Operator
  operator_at at = operator_in (lexeme_at source at)

  abbrev pub sign_at : ℕ → Sign
  sign_at at = sign_in (lexeme_at source at)

  abbrev pub constant_at : ℕ → Constant
  constant_at at = constant_in (lexeme_at source at)
