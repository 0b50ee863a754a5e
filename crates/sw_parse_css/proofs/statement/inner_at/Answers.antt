use Rattle.std.proofs.Common.{sym}
use Rattle.sw_parse_css.specs.Seen.{seen}
use Rattle.sw_parse_css.proofs.Choices.{inner_declaration, inner_custom, inner_other}
use Rattle.sw_parse_css.proofs.statement.inner_at.Goals as goal

pub returns-then-is_at : goal.returns-then-is_at
returns-then-is_at g c =
    rw (inner_declaration (seen c.args.source.now) c.args.levels c.args.at (sym c.if-is_at.ensures.test))
    (c.read_some.ensures _ c.declaration_at.ensures)

pub returns-then-is_at-2 : goal.returns-then-is_at-2
returns-then-is_at-2 g c =
    rw (inner_custom (seen c.args.source.now) c.args.levels c.args.at (sym c.if-is_at.ensures.test) (sym c.if-is_at-2.ensures.test))
    (c.read_some-then-is_at-2.ensures _ c.custom_at.ensures)

pub returns-else-is_at-2 : goal.returns-else-is_at-2
returns-else-is_at-2 g c =
    rw (inner_other (seen c.args.source.now) c.args.levels c.args.at (sym c.if-is_at.ensures.test) (sym c.if-is_at-2.ensures.test))
    c.other_at.ensures
