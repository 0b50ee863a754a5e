-- Lists with commas and without brackets, which stand alone: no operand, no item and no argument is one.
use Rattle.std.specs.Prelude.{Bool, true, false}
use Rattle.sw_tree.specs.declared.expr.Argument.{Argument}
use Rattle.sw_tree.specs.declared.expr.Around.TheVariants as arounds
use Rattle.sw_tree.specs.declared.expr.Callee.{Callee}
use Rattle.sw_tree.specs.declared.expr.Expr.{Expr}
use Rattle.sw_tree.specs.declared.expr.ExprKind.{ExprKind, out-ExprKind}
use Rattle.sw_tree.specs.declared.expr.ExprKind.TheOpen.{ExprKind-F}
use Rattle.sw_tree.specs.declared.expr.Link.{Link}
use Rattle.sw_tree.specs.declared.expr.Pair.{Pair}
use Rattle.sw_tree.specs.declared.expr.Separator.TheVariants as separators
use Rattle.sw_tree.specs.declared.text.Parts.{Parts}
use Rattle.sw_tree.specs.declared.text.Piece.{Piece}
use Rattle.sw_tree.specs.declared.text.Text.{Text}

abbrev pub is_bare_by : ExprKind-F ExprKind Parts Piece Argument Callee Expr Link Pair Text → Bool
is_bare_by (ExprKind-F.List items separators.Comma arounds.Nothing) = true
is_bare_by _ = false

unfoldable pub is_bare : Expr → Bool
is_bare value = is_bare_by (out-ExprKind value.kind)
