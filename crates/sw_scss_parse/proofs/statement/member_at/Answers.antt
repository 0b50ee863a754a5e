use Rattle.std.proofs.Common.{sym}
use Rattle.sw_scss_parse.proofs.Choices.{member_statement_function, member_statement_mixin, member_statement_include, member_statement_content}
use Rattle.sw_scss_parse.proofs.statement.member_at.Goals as goal

pub returns-then-is_at : goal.returns-then-is_at
returns-then-is_at g c =
    rw (member_statement_function c.args.source.now c.args.levels c.args.at (sym c.if-is_at.ensures.test))
    c.function_at.ensures

pub returns-then-is_at-2 : goal.returns-then-is_at-2
returns-then-is_at-2 g c =
    rw (member_statement_mixin c.args.source.now c.args.levels c.args.at (sym c.if-is_at.ensures.test) (sym c.if-is_at-2.ensures.test))
    c.mixin_at.ensures

pub returns-then-is_at-3 : goal.returns-then-is_at-3
returns-then-is_at-3 g c =
    rw (member_statement_include c.args.source.now c.args.levels c.args.at (sym c.if-is_at.ensures.test) (sym c.if-is_at-2.ensures.test) (sym c.if-is_at-3.ensures.test))
    c.include_at.ensures

pub returns-else-is_at-3 : goal.returns-else-is_at-3
returns-else-is_at-3 g c =
    rw (member_statement_content c.args.source.now c.args.levels c.args.at (sym c.if-is_at.ensures.test) (sym c.if-is_at-2.ensures.test) (sym c.if-is_at-3.ensures.test))
    c.content_at.ensures
