use Rattle.std.proofs.lemmas.Result.{err_from_is_err_and}
use Rattle.sw_parse_table.specs.Expressions.{word_insert}
use Rattle.sw_parse_table.specs.Queries.{inserted, inserted_query}
use Rattle.sw_parse_media_queries.specs.Joints.{inserted_rest}
use Rattle.sw_parse_media_queries.proofs.Added.{after, stops}
use Rattle.sw_parse_media_queries.proofs.query.inserted_query_at.Goals as goal

pub returns-in_err-place : goal.returns-in_err-place
unfolding inserted_query inserted word_insert
returns-in_err-place c =
    let p = err_from_is_err_and c.from_residual.result c.from_residual.ensures.1 in rw (p.1, p.2) ((stops c.args.source.now c.args.levels (inserted c.args.source.now) (inserted_rest c.args.source.now) c.args.at c.args.list.now _ c.in_err-place.ensures))

pub returns : goal.returns
unfolding inserted_query inserted word_insert
returns c =
    rw (after c.args.source.now c.args.levels (inserted c.args.source.now) (inserted_rest c.args.source.now) c.args.at _ c.args.list.now c.inserted_at.new.list c.in_ok-place.ensures) c.inserted_rest_at.ensures
