use Rattle.std.proofs.lemmas.Result.{err_from_is_err_and}
use Rattle.sw_parse_table.specs.Queries.{value_piece, feature_inside}
use Rattle.sw_parse_media_queries.specs.Joints.{feature_rest}
use Rattle.sw_parse_media_queries.proofs.Added.{after, stops}
use Rattle.sw_parse_media_queries.proofs.value.feature_inside_at.Goals as goal

pub returns-in_err-place : goal.returns-in_err-place
unfolding feature_inside
returns-in_err-place c =
    let p = err_from_is_err_and c.from_residual.result c.from_residual.ensures.1 in rw (p.1, p.2) ((stops c.args.source.now c.args.levels (value_piece c.args.source.now) (feature_rest c.args.source.now) c.args.at c.args.list.now _ c.in_err-place.ensures))

pub returns : goal.returns
unfolding feature_inside
returns c =
    rw (after c.args.source.now c.args.levels (value_piece c.args.source.now) (feature_rest c.args.source.now) c.args.at _ c.args.list.now c.value_at.new.list c.in_ok-place.ensures) c.feature_rest_at.ensures
