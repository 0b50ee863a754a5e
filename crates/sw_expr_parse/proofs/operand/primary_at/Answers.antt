use Rattle.std.proofs.Common.{sym}
use Rattle.sw_expr_parse.proofs.Choices.{primary_literal, primary_special, primary_variable, primary_owned, primary_other}
use Rattle.sw_expr_parse.proofs.operand.primary_at.Goals as goal

pub returns-then-begins_literal : goal.returns-then-begins_literal
returns-then-begins_literal g c =
    rw (primary_literal c.args.source.now c.args.levels c.args.at (sym c.if-begins_literal.ensures.test))
    c.literal_at.ensures

pub returns-then-is_at : goal.returns-then-is_at
returns-then-is_at g c =
    rw (primary_special c.args.source.now c.args.levels c.args.at (sym c.if-begins_literal.ensures.test) (sym c.if-is_at.ensures.test))
    c.special_at.ensures

pub returns-then-is_dollar : goal.returns-then-is_dollar
returns-then-is_dollar g c =
    rw (primary_variable c.args.source.now c.args.levels c.args.at (sym c.if-begins_literal.ensures.test) (sym c.if-is_at.ensures.test) (sym c.if-is_dollar.ensures.test))
    c.variable_at.ensures

pub returns-then-is_at-2 : goal.returns-then-is_at-2
returns-then-is_at-2 g c =
    rw (primary_owned c.args.source.now c.args.levels c.args.at (sym c.if-begins_literal.ensures.test) (sym c.if-is_at.ensures.test) (sym c.if-is_dollar.ensures.test) (sym c.if-is_at-2.ensures.test))
    c.owned_at.ensures

pub returns-else-is_at-2 : goal.returns-else-is_at-2
returns-else-is_at-2 g c =
    rw (primary_other c.args.source.now c.args.levels c.args.at (sym c.if-begins_literal.ensures.test) (sym c.if-is_at.ensures.test) (sym c.if-is_dollar.ensures.test) (sym c.if-is_at-2.ensures.test))
    c.other_at.ensures
