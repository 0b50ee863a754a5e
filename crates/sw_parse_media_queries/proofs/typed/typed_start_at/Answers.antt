use Rattle.std.proofs.Common.{sym}
use Rattle.sw_parse_media_queries.proofs.Choices.{start_name, start_insert}
use Rattle.sw_parse_media_queries.proofs.typed.typed_start_at.Goals as goal

pub returns-then-begins_name : goal.returns-then-begins_name
returns-then-begins_name c =
    rw (start_name c.args.source.now c.args.levels c.args.at (sym c.if-begins_name.ensures)) c.typed_name_at.ensures

pub returns-else-begins_name : goal.returns-else-begins_name
returns-else-begins_name c =
    rw (start_insert c.args.source.now c.args.levels c.args.at (sym c.if-begins_name.ensures)) c.inserted_at.ensures
