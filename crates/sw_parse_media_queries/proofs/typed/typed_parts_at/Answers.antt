use Rattle.std.proofs.Common.{◌<◌, true, false, refl, sym, length, arith}
use Rattle.std.proofs.lemmas.Result.{err_from_is_err_and}
use Rattle.sw_parse_grammar.proofs.Loops.{at_first}
use Rattle.sw_parse_table.specs.Queries.{typed_part}
use Rattle.sw_parse_table.proofs.Decided.{fit}
use Rattle.sw_parse_media_queries.proofs.Rows.{loop_goes, loop_stops, loop_ends, goes_on}
use Rattle.sw_parse_media_queries.proofs.Choices.{parts_repeat}
use Rattle.sw_parse_media_queries.proofs.typed.typed_parts_at.Goals as goal

pub returns-in_err-place : goal.returns-in_err-place
returns-in_err-place c =
    let p = err_from_is_err_and c.from_residual.result c.from_residual.ensures.1 in rw (p.1, p.2) (loop_stops (fit c.args.source.now) c.args.levels (typed_part c.args.source.now) (parts_repeat c.args.source.now).all _ _ _ _ c.parts.invariant (at_first (typed_part c.args.source.now) _ _ true (parts_repeat c.args.source.now).starts (sym c.parts-test.ensures.test)) (c.in_err-place.ensures))

pub parts-smaller : goal.parts-smaller
parts-smaller c =
    let lt = goes_on (fit c.args.source.now) c.args.levels (typed_part c.args.source.now) (parts_repeat c.args.source.now).one (parts_repeat c.args.source.now).some _ _ _ _ c.in_ok-place.ensures in
    let le : c.parts.place < length c.args.source.now.lexemes.now = c.parts-test.ensures.within refl in omega arith

pub parts-preserved : goal.parts-preserved
parts-preserved c =
    loop_goes (fit c.args.source.now) c.args.levels (typed_part c.args.source.now) (parts_repeat c.args.source.now).all _ _ _ _ _ c.parts.invariant (at_first (typed_part c.args.source.now) _ _ true (parts_repeat c.args.source.now).starts (sym c.parts-test.ensures.test)) (c.in_ok-place.ensures)

pub returns : goal.returns
returns c =
    loop_ends (fit c.args.source.now) c.args.levels (typed_part c.args.source.now) (parts_repeat c.args.source.now).all _ _ _ c.parts.invariant (at_first (typed_part c.args.source.now) _ _ false (parts_repeat c.args.source.now).starts (sym c.parts-test.ensures.test))
