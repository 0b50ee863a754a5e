use Rattle.std.proofs.Common.{◌<◌, true, false, length, refl, sym, arith}
use Rattle.std.proofs.lemmas.Result.{err_from_is_err_and}
use Rattle.sw_parse_grammar.proofs.Loops.{at_first, loop_step, loop_end, loop_fails, goes_forward}
use Rattle.sw_parse_css.specs.Seen.{seen}
use Rattle.sw_parse_css.specs.Rows.{statement_of}
use Rattle.sw_parse_css.proofs.Decided.{fit}
use Rattle.sw_parse_css.proofs.Choices.{repeated}
use Rattle.sw_parse_css.proofs.read.statements_by.Goals as goal

pub returns-in_err-item : goal.returns-in_err-item
returns-in_err-item g c =
    let p = err_from_is_err_and c.from_residual.result c.from_residual.ensures.1 in
    let s = seen c.args.source.now in
    rw (p.1, p.2) (loop_fails (fit s) c.args.levels (statement_of s c.args.within) (repeated s c.args.within).all _ _ _ _ c.items.invariant
    (at_first (statement_of s c.args.within) _ _ true (repeated s c.args.within).starts (sym c.items-test.ensures.test)) c.in_err-item.ensures)

pub items-smaller : goal.items-smaller
items-smaller g c =
    let s = seen c.args.source.now in
    let lt = goes_forward (fit s) c.args.levels (statement_of s c.args.within) (repeated s c.args.within).one (repeated s c.args.within).some _ _ _ c.in_ok-item.ensures in
    let le : c.items.place < length c.args.source.now.lexemes.now = c.items-test.ensures.within refl in omega arith

pub items-preserved : goal.items-preserved
items-preserved g c =
    let s = seen c.args.source.now in
    rw c.in_ok-grown.ensures.more
    (loop_step (fit s) c.args.levels (statement_of s c.args.within) (repeated s c.args.within).all _ _ _ _ _ c.items.invariant
    (at_first (statement_of s c.args.within) _ _ true (repeated s c.args.within).starts (sym c.items-test.ensures.test)) c.in_ok-item.ensures)

pub returns : goal.returns
returns g c =
    let s = seen c.args.source.now in
    loop_end (fit s) c.args.levels (statement_of s c.args.within) (repeated s c.args.within).all _ _ _ c.items.invariant
    (at_first (statement_of s c.args.within) _ _ false (repeated s c.args.within).starts (sym c.items-test.ensures.test))
