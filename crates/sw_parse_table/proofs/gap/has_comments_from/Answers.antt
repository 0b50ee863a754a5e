use Rattle.std.proofs.Common.{sym, ◌∙◌}
use Rattle.sw_parse_table.proofs.Gaps.{texts_past}
use Rattle.sw_parse_table.proofs.gap.has_comments_from.Goals as goal

pub places-preserved : goal.places-preserved
places-preserved c to from =
    c.places.invariant to from
    ∙ texts_past c.args.source.now to from c.places.at c.args.end c.places-test.true (sym c.is_commented.ensures ∙ c.if-is_commented.false)
