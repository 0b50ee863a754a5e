use Rattle.std.proofs.Common.{sym}
use Rattle.sw_parse_media_queries.proofs.Choices.{query_prefixed, query_named, query_inserted, query_not, query_paren}
use Rattle.sw_parse_media_queries.proofs.query.query_at.Goals as goal

pub returns-then-is_prefix : goal.returns-then-is_prefix
returns-then-is_prefix c =
    rw (query_prefixed c.args.source.now c.args.levels c.args.at (sym c.if-is_prefix.ensures)) c.prefixed_query_at.ensures

pub returns-then-begins_name : goal.returns-then-begins_name
returns-then-begins_name c =
    rw (query_named c.args.source.now c.args.levels c.args.at (sym c.if-is_prefix.ensures) (sym c.if-begins_name.ensures)) c.named_query_at.ensures

pub returns-then-is_at : goal.returns-then-is_at
returns-then-is_at c =
    rw (query_inserted c.args.source.now c.args.levels c.args.at (sym c.if-is_prefix.ensures) (sym c.if-begins_name.ensures) (sym c.if-is_at.ensures.test)) c.inserted_query_at.ensures

pub returns-then-is_at-2 : goal.returns-then-is_at-2
returns-then-is_at-2 c =
    rw (query_not c.args.source.now c.args.levels c.args.at (sym c.if-is_prefix.ensures) (sym c.if-begins_name.ensures) (sym c.if-is_at.ensures.test) (sym c.if-is_at-2.ensures.test)) c.not_feature_at.ensures

pub returns-else-is_at-2 : goal.returns-else-is_at-2
returns-else-is_at-2 c =
    rw (query_paren c.args.source.now c.args.levels c.args.at (sym c.if-is_prefix.ensures) (sym c.if-begins_name.ensures) (sym c.if-is_at.ensures.test) (sym c.if-is_at-2.ensures.test)) c.paren_query_at.ensures
