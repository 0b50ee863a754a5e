use Rattle.std.proofs.lemmas.Result.{err_from_is_err_and}
use Rattle.sw_parse_grammar.specs.Grammar.{alt, empty}
use Rattle.sw_parse_table.specs.Queries.{comparison}
use Rattle.sw_parse_media_queries.proofs.Added.{after, stops}
use Rattle.sw_parse_media_queries.proofs.value.comparisons_at.Goals as goal

pub returns-in_err-place : goal.returns-in_err-place
returns-in_err-place c =
    let p = err_from_is_err_and c.from_residual.result c.from_residual.ensures.1 in rw (p.1, p.2) ((stops c.args.source.now c.args.levels (comparison c.args.source.now) (alt (comparison c.args.source.now) empty) c.args.at c.args.list.now _ c.in_err-place.ensures))

pub returns : goal.returns
returns c =
    rw (after c.args.source.now c.args.levels (comparison c.args.source.now) (alt (comparison c.args.source.now) empty) c.args.at _ c.args.list.now c.comparison_at.new.list c.in_ok-place.ensures) c.second_comparison_at.ensures
