use Rattle.std.proofs.Common.{◌<◌, true, false, refl, sym, ◌∙◌, length, arith}
use Rattle.std.proofs.lemmas.Result.{err_from_is_err_and}
use Rattle.sw_parse_grammar.proofs.Loops.{at_first}
use Rattle.sw_parse_table.specs.Queries.{query, comma_query}
use Rattle.sw_parse_table.proofs.Decided.{fit}
use Rattle.sw_parse_media_queries.proofs.Rows.{loop_goes, loop_stops, loop_ends, goes_on}
use Rattle.sw_parse_media_queries.proofs.Added.{comma_worded}
use Rattle.sw_parse_media_queries.proofs.Choices.{queries_repeat, query_solid}
use Rattle.sw_parse_media_queries.proofs.query.comma_queries_at.Goals as goal

pub returns-in_err-place : goal.returns-in_err-place
returns-in_err-place c =
    let p = err_from_is_err_and c.from_residual-in_err-place.result c.from_residual-in_err-place.ensures.1 in rw (p.1, p.2) (loop_stops (fit c.args.source.now) c.args.levels (comma_query c.args.source.now) (queries_repeat c.args.source.now).all _ _ _ _ c.queries.invariant (at_first (comma_query c.args.source.now) _ _ true (queries_repeat c.args.source.now).starts (sym c.queries-test.ensures.test)) (rw (comma_worded c.args.source.now c.args.levels c.queries.place c.queries.list c.add_text.new.list (sym c.queries-test.ensures.test) c.in_ok-add_text.ensures.more) c.in_err-place.ensures))

pub queries-smaller : goal.queries-smaller
queries-smaller c =
    let lt = goes_on (fit c.args.source.now) c.args.levels (query c.args.source.now) (query_solid c.args.source.now).one (query_solid c.args.source.now).some _ _ _ _ c.in_ok-place.ensures in
    let le : c.queries.place < length c.args.source.now.lexemes.now = c.queries-test.ensures.within refl in omega arith

pub queries-preserved : goal.queries-preserved
queries-preserved c =
    loop_goes (fit c.args.source.now) c.args.levels (comma_query c.args.source.now) (queries_repeat c.args.source.now).all _ _ _ _ _ c.queries.invariant (at_first (comma_query c.args.source.now) _ _ true (queries_repeat c.args.source.now).starts (sym c.queries-test.ensures.test)) (comma_worded c.args.source.now c.args.levels c.queries.place c.queries.list c.add_text.new.list (sym c.queries-test.ensures.test) c.in_ok-add_text.ensures.more ∙ c.in_ok-place.ensures)

pub returns : goal.returns
returns c =
    loop_ends (fit c.args.source.now) c.args.levels (comma_query c.args.source.now) (queries_repeat c.args.source.now).all _ _ _ c.queries.invariant (at_first (comma_query c.args.source.now) _ _ false (queries_repeat c.args.source.now).starts (sym c.queries-test.ensures.test))
