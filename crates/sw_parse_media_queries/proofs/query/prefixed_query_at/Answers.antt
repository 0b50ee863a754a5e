use Rattle.std.proofs.Common.{codes}
use Rattle.std.proofs.lemmas.Result.{err_from_is_err_and}
use Rattle.sw_parse_grammar.specs.Grammar.{build, anywhere}
use Rattle.sw_parse_table.specs.Queries.{said_before, typed, prefixed_query}
use Rattle.sw_parse_media_queries.specs.Joints.{prefix_piece}
use Rattle.sw_parse_media_queries.proofs.Added.{after, stops, said}
use Rattle.sw_parse_media_queries.proofs.query.prefixed_query_at.Goals as goal

pub returns-in_err-place : goal.returns-in_err-place
unfolding prefixed_query
returns-in_err-place c =
    let p = err_from_is_err_and c.from_residual.result c.from_residual.ensures.1 in rw (p.1, p.2) (stops c.args.source.now c.args.levels (prefix_piece c.args.source.now) (build (anywhere (said_before (codes " "))) (typed c.args.source.now)) c.args.at c.args.list.now _ c.in_err-place.ensures)

pub returns : goal.returns
unfolding prefixed_query
returns c =
    rw (after c.args.source.now c.args.levels (prefix_piece c.args.source.now) (build (anywhere (said_before (codes " "))) (typed c.args.source.now)) c.args.at _ c.args.list.now c.prefix_at.new.list c.in_ok-place.ensures, said c.args.source.now c.args.levels (codes " ") (typed c.args.source.now) _ c.prefix_at.new.list c.add_text.new.list c.in_ok-add_text.ensures.more) c.typed_at.ensures
