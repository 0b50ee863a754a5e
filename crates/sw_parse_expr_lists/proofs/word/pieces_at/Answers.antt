use Rattle.std.proofs.Common.{◌<◌, true, false, length, refl, sym, arith}
use Rattle.std.proofs.lemmas.Result.{err_from_is_err_and}
use Rattle.sw_parse_grammar.proofs.Loops.{at_first, loop_step, loop_end, loop_fails, goes_forward}
use Rattle.sw_parse_table.proofs.Decided.{fit}
use Rattle.sw_parse_expr_lists.specs.Inserts.{piece_of}
use Rattle.sw_parse_expr_lists.proofs.Repeated.{piece_repeats}
use Rattle.sw_parse_expr_lists.proofs.word.pieces_at.Goals as goal

pub returns-in_err-item : goal.returns-in_err-item
returns-in_err-item g c =
    let p = err_from_is_err_and c.from_residual.result c.from_residual.ensures.1 in
    rw (p.1, p.2) (loop_fails (fit c.args.source.now) c.args.levels (piece_of c.args.source.now c.args.kind) (piece_repeats c.args.source.now c.args.kind).all _ _ _ _ c.items.invariant (at_first (piece_of c.args.source.now c.args.kind) _ _ true (piece_repeats c.args.source.now c.args.kind).starts (sym c.items-test.ensures.test)) c.in_err-item.ensures)

pub items-smaller : goal.items-smaller
items-smaller g c =
    let lt = goes_forward (fit c.args.source.now) c.args.levels (piece_of c.args.source.now c.args.kind) (piece_repeats c.args.source.now c.args.kind).one (piece_repeats c.args.source.now c.args.kind).some _ _ _ c.in_ok-item.ensures in
    let le : c.items.place < length c.args.source.now.lexemes.now = c.items-test.ensures.within refl in omega arith

pub items-preserved : goal.items-preserved
items-preserved g c =
    rw c.in_ok-grown.ensures.more
    (loop_step (fit c.args.source.now) c.args.levels (piece_of c.args.source.now c.args.kind) (piece_repeats c.args.source.now c.args.kind).all _ _ _ _ _ c.items.invariant (at_first (piece_of c.args.source.now c.args.kind) _ _ true (piece_repeats c.args.source.now c.args.kind).starts (sym c.items-test.ensures.test)) c.in_ok-item.ensures)

pub returns : goal.returns
returns g c =
    loop_end (fit c.args.source.now) c.args.levels (piece_of c.args.source.now c.args.kind) (piece_repeats c.args.source.now c.args.kind).all _ _ _ c.items.invariant (at_first (piece_of c.args.source.now c.args.kind) _ _ false (piece_repeats c.args.source.now c.args.kind).starts (sym c.items-test.ensures.test))
