use Rattle.std.proofs.Common.{sym}
use Rattle.sw_parse_media_queries.proofs.Choices.{piece_token, piece_insert}
use Rattle.sw_parse_media_queries.proofs.typed.typed_part_at.Goals as goal

pub returns-then-is_at : goal.returns-then-is_at
returns-then-is_at c =
    rw (piece_token c.args.source.now c.args.levels c.args.at (sym c.if-is_at.ensures.test)) c.token_at.ensures

pub returns-else-is_at : goal.returns-else-is_at
returns-else-is_at c =
    rw (piece_insert c.args.source.now c.args.levels c.args.at (sym c.if-is_at.ensures.test)) c.inserted_at.ensures
