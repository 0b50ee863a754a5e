use Rattle.std.proofs.lemmas.Result.{err_from_is_err_and}
use Rattle.sw_parse_grammar.specs.Grammar.{many}
use Rattle.sw_parse_table.specs.Queries.{query, comma_query}
use Rattle.sw_parse_media_queries.proofs.Added.{after, stops}
use Rattle.sw_parse_media_queries.proofs.query.pieces_at.Goals as goal

pub returns-in_err-place : goal.returns-in_err-place
returns-in_err-place c =
    let p = err_from_is_err_and c.from_residual.result c.from_residual.ensures.1 in rw (p.1, p.2) ((stops c.args.source.now c.args.levels (query c.args.source.now) (many (comma_query c.args.source.now)) c.args.at c.args.list.now _ c.in_err-place.ensures))

pub returns : goal.returns
returns c =
    rw (after c.args.source.now c.args.levels (query c.args.source.now) (many (comma_query c.args.source.now)) c.args.at _ c.args.list.now c.query_at.new.list c.in_ok-place.ensures) c.comma_queries_at.ensures
