-- Which quotients keep their two sides, so that `a/b` is written as it stands (the Sass documentation on
-- slash-separated values; which parentheses count is this project's own rule), and what is left where they don't.
use Rattle.std.specs.Prelude.{Bool, true, false}
use Rattle.sw_text.specs.declared.place.Span.{Span}
use Rattle.sw_values.specs.declared.plain.Plain.{Plain}
use Rattle.sw_ops.specs.Sides.{plain}
use Rattle.sw_tree.specs.declared.expr.Expr.{Expr}
use Rattle.sw_tree.specs.declared.expr.ExprKind.{ExprKind, out-ExprKind}
use Rattle.sw_tree.specs.declared.expr.ExprKind.TheOpen.{ExprKind-F}
use Rattle.sw_tree.specs.declared.expr.Separator.{Separator}
use Rattle.sw_tree.specs.declared.expr.Separator.TheVariants as separators
use Rattle.sw_tree.specs.declared.expr.Around.{Around}
use Rattle.sw_tree.specs.declared.expr.Around.TheVariants as arounds
use Rattle.sw_tree.specs.declared.expr.Argument.{Argument}
use Rattle.sw_tree.specs.declared.expr.Callee.{Callee}
use Rattle.sw_tree.specs.declared.expr.Link.{Link}
use Rattle.sw_tree.specs.declared.expr.Pair.{Pair}
use Rattle.sw_tree.specs.declared.text.Parts.{Parts}
use Rattle.sw_tree.specs.declared.text.Piece.{Piece}
use Rattle.sw_tree.specs.declared.text.Text.{Text}
use Rattle.sw_eval_literals.specs.declared.quotients.Parens.{Parens}
use Rattle.sw_eval_literals.specs.declared.quotients.Parens.TheVariants as parens
use Rattle.sw_eval_literals.specs.Answers.{Answer, of_op}

-- ---- parentheses

-- a quotient keeps its sides outside parentheses, and as an item of a space list
abbrev pub may_keep : Parens → Bool
may_keep parens.Outside = true
may_keep parens.Item = true
may_keep parens.Inside = false

-- for what stands in an expression without parentheses of its own: operands, arguments, and values in texts
abbrev pub deeper : Parens → Parens
deeper parens.Outside = parens.Outside
deeper parens.Item = parens.Inside
deeper parens.Inside = parens.Inside

abbrev pub spaced : Separator → Parens → Parens
spaced separators.Space parens.Inside = parens.Item
spaced separators.Space parens.Item = parens.Item
spaced separators.Space parens.Outside = parens.Outside
spaced separators.Comma around = around
spaced separators.Undecided around = around

-- for the items of a list
abbrev pub of_item : Parens → Separator → Around → Parens
of_item outer separator arounds.Nothing = spaced separator (deeper outer)
of_item outer separator arounds.Brackets = spaced separator (deeper outer)
of_item outer separator arounds.Parens = spaced separator parens.Inside

-- ---- literals

abbrev pub Kinds : Type 0
Kinds = ExprKind-F ExprKind Parts Piece Argument Callee Expr Link Pair Text

abbrev pub literal_by : Kinds → Bool
literal_by (ExprKind-F.Number number) = true
literal_by (ExprKind-F.Quoted parts) = false
literal_by (ExprKind-F.Word parts) = false
literal_by (ExprKind-F.Hash name) = false
literal_by (ExprKind-F.Constant constant) = false
literal_by (ExprKind-F.Url parts) = false
literal_by (ExprKind-F.Special parts) = false
literal_by (ExprKind-F.Variable name) = false
literal_by (ExprKind-F.Qualified variable) = false
literal_by (ExprKind-F.Call callee arguments) = false
literal_by ExprKind-F.Parent = false
literal_by ExprKind-F.Important = false
literal_by (ExprKind-F.Prefixed signs operand) = false
literal_by (ExprKind-F.Chain first rest) = false
literal_by (ExprKind-F.List items separator around) = false
literal_by (ExprKind-F.Paren inner) = false
literal_by (ExprKind-F.Map pairs) = false

-- a number that the sheet writes
unfoldable pub is_literal : Expr → Bool
is_literal operand = literal_by (out-ExprKind operand.kind)

-- ---- without sides

-- the value as it is stored, passed on, returned, put in parentheses or computed with; a quotient over zero, which
-- counts as 0 while it keeps its sides, is refused here
unfoldable pub plain_at : Plain → Span → Answer Plain
plain_at value span = of_op span (plain value)
