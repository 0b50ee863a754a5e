use Rattle.std.proofs.Common.{sym}
use Rattle.sw_parse_css.specs.Seen.{seen}
use Rattle.sw_parse_css.specs.Rows.{form_of}
use Rattle.sw_parse_css.proofs.Choices.{other_at_rule, other_import, other_charset, other_comment, other_semicolon, other_nameless, other_none}
use Rattle.sw_parse_css.proofs.statement.other_at.Goals as goal

pub returns-then-is_at : goal.returns-then-is_at
returns-then-is_at g c =
    rw (other_at_rule (seen c.args.source.now) c.args.levels c.args.at (form_of c.args.within) (sym c.if-is_at.ensures.test))
    (c.read_some.ensures _ c.at_rule_at.ensures)

pub returns-then-is_at-2 : goal.returns-then-is_at-2
returns-then-is_at-2 g c =
    rw (other_import (seen c.args.source.now) c.args.levels c.args.at (form_of c.args.within) (sym c.if-is_at.ensures.test) (sym c.if-is_at-2.ensures.test))
    (c.read_some-then-is_at-2.ensures _ c.import_at.ensures)

pub returns-then-is_at-3 : goal.returns-then-is_at-3
returns-then-is_at-3 g c =
    rw (other_charset (seen c.args.source.now) c.args.levels c.args.at (form_of c.args.within) (sym c.if-is_at.ensures.test) (sym c.if-is_at-2.ensures.test) (sym c.if-is_at-3.ensures.test))
    (c.read_some-then-is_at-3.ensures _ c.charset_at.ensures)

pub returns-then-is_at-4 : goal.returns-then-is_at-4
returns-then-is_at-4 g c =
    rw (other_comment (seen c.args.source.now) c.args.levels c.args.at (form_of c.args.within) (sym c.if-is_at.ensures.test) (sym c.if-is_at-2.ensures.test) (sym c.if-is_at-3.ensures.test) (sym c.if-is_at-4.ensures.test))
    (c.read_some-then-is_at-4.ensures _ c.comment_at.ensures)

pub returns-then-is_at-5 : goal.returns-then-is_at-5
returns-then-is_at-5 g c =
    other_semicolon (seen c.args.source.now) c.args.levels c.args.at (form_of c.args.within) (sym c.if-is_at.ensures.test) (sym c.if-is_at-2.ensures.test) (sym c.if-is_at-3.ensures.test) (sym c.if-is_at-4.ensures.test) (sym c.if-is_at-5.ensures.test)

pub returns-then-is_at-6 : goal.returns-then-is_at-6
returns-then-is_at-6 g c =
    other_nameless (seen c.args.source.now) c.args.levels c.args.at (form_of c.args.within) (sym c.if-is_at.ensures.test) (sym c.if-is_at-2.ensures.test) (sym c.if-is_at-3.ensures.test) (sym c.if-is_at-4.ensures.test) (sym c.if-is_at-5.ensures.test) (sym c.if-is_at-6.ensures.test)

pub returns-else-is_at-6 : goal.returns-else-is_at-6
returns-else-is_at-6 g c =
    other_none (seen c.args.source.now) c.args.levels c.args.at (form_of c.args.within) (sym c.if-is_at.ensures.test) (sym c.if-is_at-2.ensures.test) (sym c.if-is_at-3.ensures.test) (sym c.if-is_at-4.ensures.test) (sym c.if-is_at-5.ensures.test) (sym c.if-is_at-6.ensures.test)
