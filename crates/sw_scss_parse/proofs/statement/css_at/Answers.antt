use Rattle.std.proofs.Common.{sym}
use Rattle.sw_scss_parse.proofs.Choices.{css_statement_media, css_statement_supports, css_statement_at_root, css_statement_charset, css_statement_import, css_statement_extend, css_statement_at_rule}
use Rattle.sw_scss_parse.proofs.statement.css_at.Goals as goal

pub returns-then-is_at : goal.returns-then-is_at
returns-then-is_at g c =
    rw (css_statement_media c.args.source.now c.args.levels c.args.at (sym c.if-is_at.ensures.test))
    c.media_at.ensures

pub returns-then-is_at-2 : goal.returns-then-is_at-2
returns-then-is_at-2 g c =
    rw (css_statement_supports c.args.source.now c.args.levels c.args.at (sym c.if-is_at.ensures.test) (sym c.if-is_at-2.ensures.test))
    c.supports_at.ensures

pub returns-then-is_at-3 : goal.returns-then-is_at-3
returns-then-is_at-3 g c =
    rw (css_statement_at_root c.args.source.now c.args.levels c.args.at (sym c.if-is_at.ensures.test) (sym c.if-is_at-2.ensures.test) (sym c.if-is_at-3.ensures.test))
    c.at_root_at.ensures

pub returns-then-is_at-4 : goal.returns-then-is_at-4
returns-then-is_at-4 g c =
    rw (css_statement_charset c.args.source.now c.args.levels c.args.at (sym c.if-is_at.ensures.test) (sym c.if-is_at-2.ensures.test) (sym c.if-is_at-3.ensures.test) (sym c.if-is_at-4.ensures.test))
    c.charset_at.ensures

pub returns-then-is_at-5 : goal.returns-then-is_at-5
returns-then-is_at-5 g c =
    rw (css_statement_import c.args.source.now c.args.levels c.args.at (sym c.if-is_at.ensures.test) (sym c.if-is_at-2.ensures.test) (sym c.if-is_at-3.ensures.test) (sym c.if-is_at-4.ensures.test) (sym c.if-is_at-5.ensures.test))
    c.read_import.ensures

pub returns-then-is_at-6 : goal.returns-then-is_at-6
returns-then-is_at-6 g c =
    rw (css_statement_extend c.args.source.now c.args.levels c.args.at (sym c.if-is_at.ensures.test) (sym c.if-is_at-2.ensures.test) (sym c.if-is_at-3.ensures.test) (sym c.if-is_at-4.ensures.test) (sym c.if-is_at-5.ensures.test) (sym c.if-is_at-6.ensures.test))
    c.read_extend.ensures

pub returns-else-is_at-6 : goal.returns-else-is_at-6
returns-else-is_at-6 g c =
    rw (css_statement_at_rule c.args.source.now c.args.levels c.args.at (sym c.if-is_at.ensures.test) (sym c.if-is_at-2.ensures.test) (sym c.if-is_at-3.ensures.test) (sym c.if-is_at-4.ensures.test) (sym c.if-is_at-5.ensures.test) (sym c.if-is_at-6.ensures.test))
    c.at_rule_at.ensures
