use Rattle.std.proofs.Common.{sym}
use Rattle.sw_parse_media_queries.proofs.Choices.{prefix_not, prefix_only}
use Rattle.sw_parse_media_queries.proofs.query.prefix_at.Goals as goal

pub returns-then-is_at : goal.returns-then-is_at
returns-then-is_at c =
    rw (prefix_not c.args.source.now c.args.levels c.args.at (sym c.if-is_at.ensures.test)) c.token_at.ensures

pub returns-else-is_at : goal.returns-else-is_at
returns-else-is_at c =
    rw (prefix_only c.args.source.now c.args.levels c.args.at (sym c.if-is_at.ensures.test)) c.token_at-else-is_at.ensures
