-- One level of the parts of a sheet's tree.
use Rattle.sw_tree.specs.declared.callable.Callable.{Callable}
use Rattle.sw_tree.specs.declared.callable.Content.{Content}
use Rattle.sw_tree.specs.declared.statement.AtRoot.{AtRoot}
use Rattle.sw_tree.specs.declared.statement.AtRule.{AtRule}
use Rattle.sw_tree.specs.declared.statement.Branch.{Branch}
use Rattle.sw_tree.specs.declared.statement.Each.{Each}
use Rattle.sw_tree.specs.declared.statement.For.{For}
use Rattle.sw_tree.specs.declared.statement.Media.{Media}
use Rattle.sw_tree.specs.declared.statement.Properties.{Properties}
use Rattle.sw_tree.specs.declared.statement.Rule.{Rule}
use Rattle.sw_tree.specs.declared.statement.Statement.{Statement}
use Rattle.sw_tree.specs.declared.statement.Statement.TheOpen.{Statement-F}
use Rattle.sw_tree.specs.declared.statement.Supports.{Supports}
use Rattle.sw_tree.specs.declared.statement.While.{While}
use Rattle.sw_tree.specs.declared.expr.Argument.{Argument}
use Rattle.sw_tree.specs.declared.expr.Callee.{Callee}
use Rattle.sw_tree.specs.declared.expr.Expr.{Expr}
use Rattle.sw_tree.specs.declared.expr.ExprKind.{ExprKind}
use Rattle.sw_tree.specs.declared.expr.ExprKind.TheOpen.{ExprKind-F, Parts-F, Piece-F}
use Rattle.sw_tree.specs.declared.expr.Link.{Link}
use Rattle.sw_tree.specs.declared.expr.Pair.{Pair}
use Rattle.sw_tree.specs.declared.text.Parts.{Parts}
use Rattle.sw_tree.specs.declared.text.Piece.{Piece}
use Rattle.sw_tree.specs.declared.text.Text.{Text}

-- of a statement
abbrev pub Layer : Type 0
Layer = Statement-F Statement Callable Content AtRoot AtRule Branch Each For Media Properties Rule Supports While

-- of an expression
abbrev pub Kinds : Type 0
Kinds = ExprKind-F ExprKind Parts Piece Argument Callee Expr Link Pair Text

-- of a text
abbrev pub Texts : Type 0
Texts = Parts-F ExprKind Parts Piece Argument Callee Expr Link Pair Text

-- of a piece of a text
abbrev pub Pieces : Type 0
Pieces = Piece-F ExprKind Parts Piece Argument Callee Expr Link Pair Text
