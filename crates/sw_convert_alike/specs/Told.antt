-- What can be told of a statement or an expression, and is the same of all that are alike.
use Rattle.std.specs.Prelude.{ℕ, List, map, Option, Some, None, codes}
use Rattle.sw_tree.specs.declared.callable.Callable.{Callable}
use Rattle.sw_tree.specs.declared.callable.Content.{Content}
use Rattle.sw_tree.specs.declared.expr.Argument.{Argument}
use Rattle.sw_tree.specs.declared.expr.Callee.{Callee}
use Rattle.sw_tree.specs.declared.expr.Expr.{Expr}
use Rattle.sw_tree.specs.declared.expr.ExprKind.{ExprKind, out-ExprKind}
use Rattle.sw_tree.specs.declared.expr.ExprKind.TheOpen.{ExprKind-F, Parts-F}
use Rattle.sw_tree.specs.declared.expr.Link.{Link}
use Rattle.sw_tree.specs.declared.expr.Number.{Number}
use Rattle.sw_tree.specs.declared.expr.Pair.{Pair}
use Rattle.sw_tree.specs.declared.sheet.Sheet.{Sheet}
use Rattle.sw_tree.specs.declared.statement.AtRoot.{AtRoot}
use Rattle.sw_tree.specs.declared.statement.AtRule.{AtRule}
use Rattle.sw_tree.specs.declared.statement.Branch.{Branch}
use Rattle.sw_tree.specs.declared.statement.Each.{Each}
use Rattle.sw_tree.specs.declared.statement.For.{For}
use Rattle.sw_tree.specs.declared.statement.Media.{Media}
use Rattle.sw_tree.specs.declared.statement.Properties.{Properties}
use Rattle.sw_tree.specs.declared.statement.Rule.{Rule}
use Rattle.sw_tree.specs.declared.statement.Statement.{Statement, out-Statement}
use Rattle.sw_tree.specs.declared.statement.Statement.TheOpen.{Statement-F}
use Rattle.sw_tree.specs.declared.statement.Supports.{Supports}
use Rattle.sw_tree.specs.declared.statement.While.{While}
use Rattle.sw_tree.specs.declared.text.Parts.{Parts, out-Parts}
use Rattle.sw_tree.specs.declared.text.Piece.{Piece}
use Rattle.sw_tree.specs.declared.text.Text.{Text}
use Rattle.sw_convert_alike.specs.RawText.{OpenParts}

abbrev pub OpenStatement : Type 0
OpenStatement =
    Statement-F Statement Callable Content AtRoot AtRule Branch Each For Media Properties Rule Supports While

abbrev pub OpenKind : Type 0
OpenKind = ExprKind-F ExprKind Parts Piece Argument Callee Expr Link Pair Text

-- which statement it is, in a word
abbrev pub word_by : OpenStatement → List ℕ
word_by (Statement-F.Variable x) = codes "variable"
word_by (Statement-F.Assignment x) = codes "assignment"
word_by (Statement-F.Declaration x) = codes "declaration"
word_by (Statement-F.Properties x) = codes "nested properties"
word_by (Statement-F.Custom x) = codes "custom property"
word_by (Statement-F.Rule x) = codes "rule"
word_by (Statement-F.Use x) = codes "@use"
word_by (Statement-F.Forward x) = codes "@forward"
word_by (Statement-F.Callable x) = codes "@function or @mixin"
word_by (Statement-F.Include mixin content span) = codes "@include"
word_by (Statement-F.Content x) = codes "@content"
word_by (Statement-F.Return x) = codes "@return"
word_by (Statement-F.Say x) = codes "@warn, @debug or @error"
word_by (Statement-F.If branches otherwise span) = codes "@if"
word_by (Statement-F.Each x) = codes "@each"
word_by (Statement-F.For x) = codes "@for"
word_by (Statement-F.While x) = codes "@while"
word_by (Statement-F.Media x) = codes "@media"
word_by (Statement-F.Supports x) = codes "@supports"
word_by (Statement-F.AtRoot x) = codes "@at-root"
word_by (Statement-F.Charset span) = codes "@charset"
word_by (Statement-F.Import x) = codes "@import"
word_by (Statement-F.Extend x) = codes "@extend"
word_by (Statement-F.AtRule x) = codes "another at-rule"
word_by (Statement-F.Comment x) = codes "comment"

unfoldable pub word_of : Statement → List ℕ
word_of statement = word_by (out-Statement statement)

abbrev pub words_of : Sheet → List (List ℕ)
words_of sheet = map word_of sheet.statements

-- the number that an expression is
abbrev pub number_by : OpenKind → Option Number
number_by (ExprKind-F.Number number) = Some number
number_by _ = None

unfoldable pub number_of : Expr → Option Number
number_of value = number_by (out-ExprKind value.kind)

-- the variable that it names
abbrev pub variable_by : OpenKind → Option (List ℕ)
variable_by (ExprKind-F.Variable name) = Some name
variable_by _ = None

unfoldable pub variable_of : Expr → Option (List ℕ)
variable_of value = variable_by (out-ExprKind value.kind)

-- the text of the string in quotes that it is, where no value stands in it
abbrev pub plain_by : OpenParts → Option (List ℕ)
plain_by (Parts-F.Plain text) = Some text
plain_by _ = None

abbrev pub string_by : OpenKind → Option (List ℕ)
string_by (ExprKind-F.Quoted parts) = plain_by (out-Parts parts)
string_by _ = None

unfoldable pub string_of : Expr → Option (List ℕ)
string_of value = string_by (out-ExprKind value.kind)
