use Rattle.std.proofs.Common.{sym}
use Rattle.sw_parse_css.specs.Seen.{seen}
use Rattle.sw_parse_css.proofs.Choices.{outer_named, outer_dashed, outer_rule, outer_other}
use Rattle.sw_parse_css.proofs.statement.outer_at.Goals as goal

pub returns-then-is_at : goal.returns-then-is_at
returns-then-is_at g c =
    rw (outer_named (seen c.args.source.now) c.args.levels c.args.at (sym c.if-is_at.ensures.test))
    (c.read_some.ensures _ c.named_at.ensures)

pub returns-then-is_at-2 : goal.returns-then-is_at-2
returns-then-is_at-2 g c =
    rw (outer_dashed (seen c.args.source.now) c.args.levels c.args.at (sym c.if-is_at.ensures.test) (sym c.if-is_at-2.ensures.test))
    (c.read_some-then-is_at-2.ensures _ c.dashed_at.ensures)

pub returns-then-begins_text : goal.returns-then-begins_text
returns-then-begins_text g c =
    rw (outer_rule (seen c.args.source.now) c.args.levels c.args.at (sym c.if-is_at.ensures.test) (sym c.if-is_at-2.ensures.test) (sym c.if-begins_text.ensures.test))
    (c.read_some-then-begins_text.ensures _ c.rule_at.ensures)

pub returns-else-begins_text : goal.returns-else-begins_text
returns-else-begins_text g c =
    rw (outer_other (seen c.args.source.now) c.args.levels c.args.at (sym c.if-is_at.ensures.test) (sym c.if-is_at-2.ensures.test) (sym c.if-begins_text.ensures.test))
    c.other_at.ensures
