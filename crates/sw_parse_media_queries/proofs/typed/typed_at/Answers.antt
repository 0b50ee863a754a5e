use Rattle.std.proofs.lemmas.Result.{err_from_is_err_and}
use Rattle.sw_parse_grammar.specs.Grammar.{alt}
use Rattle.sw_parse_table.specs.Queries.{typed_name, typed, inserted}
use Rattle.sw_parse_media_queries.specs.Joints.{typed_tail}
use Rattle.sw_parse_media_queries.proofs.Added.{after, stops}
use Rattle.sw_parse_media_queries.proofs.typed.typed_at.Goals as goal

pub returns-in_err-place : goal.returns-in_err-place
unfolding typed
returns-in_err-place c =
    let p = err_from_is_err_and c.from_residual.result c.from_residual.ensures.1 in rw (p.1, p.2) ((stops c.args.source.now c.args.levels (alt (typed_name c.args.source.now) (inserted c.args.source.now)) (typed_tail c.args.source.now) c.args.at c.args.list.now _ c.in_err-place.ensures))

pub returns : goal.returns
unfolding typed
returns c =
    rw (after c.args.source.now c.args.levels (alt (typed_name c.args.source.now) (inserted c.args.source.now)) (typed_tail c.args.source.now) c.args.at _ c.args.list.now c.typed_start_at.new.list c.in_ok-place.ensures) c.typed_tail_at.ensures
