-- One level of each expression that holds others in a list or behind a count of owners.
use Rattle.std.proofs.Common.{◌≡◌, List, sym, ◌∙◌, ap}
use Rattle.sw_tree.specs.declared.expr.Argument.{Argument}
use Rattle.sw_tree.specs.declared.expr.Callee.{Callee}
use Rattle.sw_tree.specs.declared.expr.Expr.{Expr}
use Rattle.sw_tree.specs.declared.expr.Link.{Link}
use Rattle.sw_tree.specs.declared.expr.Pair.{Pair}
use Rattle.sw_tree.specs.declared.expr.Sign.{Sign}
use Rattle.sw_tree.specs.declared.expr.Separator.{Separator}
use Rattle.sw_tree.specs.declared.expr.Around.{Around}
use Rattle.sw_tree.specs.declared.expr.ExprKind.{out-ExprKind, out-roll-ExprKind}
use Rattle.sw_tree.specs.declared.expr.ExprKind.TheVariants as E
use Rattle.sw_tree.specs.declared.expr.ExprKind.TheOpen.{ExprKind-F}

pub out_Prefixed : (signs : List Sign) (operand : Expr) → out-ExprKind (E.Prefixed signs operand) ≡ ExprKind-F.Prefixed signs operand
out_Prefixed signs operand = ap out-ExprKind (sym (E.rolls-Prefixed signs operand)) ∙ out-roll-ExprKind (ExprKind-F.Prefixed signs operand)

pub out_Chain : (first : Expr) (rest : List Link) → out-ExprKind (E.Chain first rest) ≡ ExprKind-F.Chain first rest
out_Chain first rest = ap out-ExprKind (sym (E.rolls-Chain first rest)) ∙ out-roll-ExprKind (ExprKind-F.Chain first rest)

pub out_List : (es : List Expr) (separator : Separator) (around : Around) → out-ExprKind (E.List es separator around) ≡ ExprKind-F.List es separator around
out_List es separator around = ap out-ExprKind (sym (E.rolls-List es separator around)) ∙ out-roll-ExprKind (ExprKind-F.List es separator around)

pub out_Paren : (e : Expr) → out-ExprKind (E.Paren e) ≡ ExprKind-F.Paren e
out_Paren e = ap out-ExprKind (sym (E.rolls-Paren e)) ∙ out-roll-ExprKind (ExprKind-F.Paren e)

pub out_Map : (ps : List Pair) → out-ExprKind (E.Map ps) ≡ ExprKind-F.Map ps
out_Map ps = ap out-ExprKind (sym (E.rolls-Map ps)) ∙ out-roll-ExprKind (ExprKind-F.Map ps)

pub out_Call : (callee : Callee) (args : List Argument) → out-ExprKind (E.Call callee args) ≡ ExprKind-F.Call callee args
out_Call callee args = ap out-ExprKind (sym (E.rolls-Call callee args)) ∙ out-roll-ExprKind (ExprKind-F.Call callee args)
