use Rattle.std.proofs.Common.{sym}
use Rattle.std.proofs.lemmas.Result.{err_from_is_err_and}
use Rattle.sw_parse_table.specs.Queries.{typed_part}
use Rattle.sw_parse_media_queries.specs.Joints.{typed_tail}
use Rattle.sw_parse_media_queries.proofs.Added.{after, stops}
use Rattle.sw_parse_media_queries.proofs.Choices.{behind_insert_part, behind_insert_rest, inserted_features}
use Rattle.sw_parse_media_queries.proofs.query.inserted_rest_at.Goals as goal

pub returns-in_err-place : goal.returns-in_err-place
returns-in_err-place c =
    let p = err_from_is_err_and c.from_residual.result c.from_residual.ensures.1 in rw (p.1, p.2) (rw (behind_insert_part c.args.source.now c.args.levels c.args.at (sym c.if-is_type_part.ensures.test)) (stops c.args.source.now c.args.levels (typed_part c.args.source.now) (typed_tail c.args.source.now) c.args.at c.args.list.now _ c.in_err-place.ensures))

pub returns-then-is_type_part : goal.returns-then-is_type_part
returns-then-is_type_part c =
    rw (behind_insert_part c.args.source.now c.args.levels c.args.at (sym c.if-is_type_part.ensures.test), after c.args.source.now c.args.levels (typed_part c.args.source.now) (typed_tail c.args.source.now) c.args.at _ c.args.list.now c.typed_part_at.new.list c.in_ok-place.ensures) c.typed_tail_at.ensures

pub returns-then-is_at : goal.returns-then-is_at
returns-then-is_at c =
    rw (inserted_features c.args.source.now c.args.levels c.args.at (sym c.if-is_type_part.ensures.test) (sym c.if-is_at.ensures.test)) c.joined_features_at.ensures

pub returns : goal.returns
returns c =
    rw (behind_insert_rest c.args.source.now c.args.levels c.args.at (sym c.if-is_type_part.ensures.test) (sym c.if-is_at.ensures.test)) c.typed_rest_at.ensures
