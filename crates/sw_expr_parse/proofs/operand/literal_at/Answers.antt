use Rattle.std.proofs.Common.{sym}
use Rattle.sw_expr_parse.proofs.Choices.{literal_number, literal_quoted, literal_template, literal_hash, literal_constant, literal_url, literal_url_template}
use Rattle.sw_expr_parse.proofs.operand.literal_at.Goals as goal

pub returns-then-is_number : goal.returns-then-is_number
returns-then-is_number g c =
    rw (literal_number c.args.source.now c.args.levels c.args.at (sym c.if-is_number.ensures.test))
    c.number_at.ensures

pub returns-then-is_at : goal.returns-then-is_at
returns-then-is_at g c =
    rw (literal_quoted c.args.source.now c.args.levels c.args.at (sym c.if-is_number.ensures.test) (sym c.if-is_at.ensures.test))
    c.quoted_at.ensures

pub returns-then-is_at-2 : goal.returns-then-is_at-2
returns-then-is_at-2 g c =
    rw (literal_template c.args.source.now c.args.levels c.args.at (sym c.if-is_number.ensures.test) (sym c.if-is_at.ensures.test) (sym c.if-is_at-2.ensures.test))
    c.template_at.ensures

pub returns-then-is_at-3 : goal.returns-then-is_at-3
returns-then-is_at-3 g c =
    rw (literal_hash c.args.source.now c.args.levels c.args.at (sym c.if-is_number.ensures.test) (sym c.if-is_at.ensures.test) (sym c.if-is_at-2.ensures.test) (sym c.if-is_at-3.ensures.test))
    c.hash_at.ensures

pub returns-then-is_constant : goal.returns-then-is_constant
returns-then-is_constant g c =
    rw (literal_constant c.args.source.now c.args.levels c.args.at (sym c.if-is_number.ensures.test) (sym c.if-is_at.ensures.test) (sym c.if-is_at-2.ensures.test) (sym c.if-is_at-3.ensures.test) (sym c.if-is_constant.ensures.test))
    c.constant_value_at.ensures

pub returns-then-is_at-4 : goal.returns-then-is_at-4
returns-then-is_at-4 g c =
    rw (literal_url c.args.source.now c.args.levels c.args.at (sym c.if-is_number.ensures.test) (sym c.if-is_at.ensures.test) (sym c.if-is_at-2.ensures.test) (sym c.if-is_at-3.ensures.test) (sym c.if-is_constant.ensures.test) (sym c.if-is_at-4.ensures.test))
    c.url_at.ensures

pub returns-else-is_at-4 : goal.returns-else-is_at-4
returns-else-is_at-4 g c =
    rw (literal_url_template c.args.source.now c.args.levels c.args.at (sym c.if-is_number.ensures.test) (sym c.if-is_at.ensures.test) (sym c.if-is_at-2.ensures.test) (sym c.if-is_at-3.ensures.test) (sym c.if-is_constant.ensures.test) (sym c.if-is_at-4.ensures.test))
    c.url_template_at.ensures
