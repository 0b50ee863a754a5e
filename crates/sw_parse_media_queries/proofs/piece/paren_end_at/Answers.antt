use Rattle.std.proofs.Common.{sym}
use Rattle.sw_parse_media_queries.proofs.Added.{ended, unended}
use Rattle.sw_parse_media_queries.proofs.piece.paren_end_at.Goals as goal

pub returns-then-not-is_at : goal.returns-then-not-is_at
returns-then-not-is_at c =
    unended c.args.source.now c.args.levels c.args.at c.args.list.now (sym c.if-not-is_at.ensures.test)

pub returns : goal.returns
returns c =
    ended c.args.source.now c.args.levels c.args.at c.args.list.now c.add_text.new.list (sym c.if-not-is_at.ensures.test) c.in_ok-add_text.ensures.more
