use Rattle.std.proofs.Common.{sym}
use Rattle.sw_parse_expr_operands.proofs.Choices.{special_expr_number, special_expr_variable, special_expr_owned, special_expr_called}
use Rattle.sw_parse_expr_operands.proofs.item.special_expr_at.Goals as goal

pub returns-then-is_number : goal.returns-then-is_number
returns-then-is_number g c =
    rw (special_expr_number c.args.source.now c.args.levels c.args.at (sym c.if-is_number.ensures.test))
    c.special_number_at.ensures

pub returns-then-is_dollar : goal.returns-then-is_dollar
returns-then-is_dollar g c =
    rw (special_expr_variable c.args.source.now c.args.levels c.args.at (sym c.if-is_number.ensures.test) (sym c.if-is_dollar.ensures.test))
    c.variable_at.ensures

pub returns-then-is_at : goal.returns-then-is_at
returns-then-is_at g c =
    rw (special_expr_owned c.args.source.now c.args.levels c.args.at (sym c.if-is_number.ensures.test) (sym c.if-is_dollar.ensures.test) (sym c.if-is_at.ensures.test))
    c.owned_at.ensures

pub returns-else-is_at : goal.returns-else-is_at
returns-else-is_at g c =
    rw (special_expr_called c.args.source.now c.args.levels c.args.at (sym c.if-is_number.ensures.test) (sym c.if-is_dollar.ensures.test) (sym c.if-is_at.ensures.test))
    c.called_at.ensures
