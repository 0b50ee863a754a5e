use Rattle.std.proofs.Common.{◌<◌, true, false, [], length, refl, sym, arith}
use Rattle.std.proofs.lemmas.Result.{err_from_is_err_and}
use Rattle.sw_parse_grammar.proofs.Loops.{at_first, loop_step, loop_end, loop_fails, goes_forward}
use Rattle.sw_parse_css.specs.Seen.{seen}
use Rattle.sw_parse_css.specs.Sheets.{text_item, text_items}
use Rattle.sw_parse_css.proofs.Decided.{fit}
use Rattle.sw_parse_css.proofs.Choices.{texts}
use Rattle.sw_parse_css.proofs.text.+text.Goals as goal

pub text_items_at-returns-in_err-place : goal.text_items_at-returns-in_err-place
unfolding text_items
text_items_at-returns-in_err-place t c =
    let p = err_from_is_err_and c.from_residual.result c.from_residual.ensures.1 in
    let s = seen c.args.source.now in
    rw (p.1, p.2) (loop_fails (fit s) c.args.levels text_item (texts s).all [] _ _ _ c.items.invariant
    (at_first text_item _ _ true (texts s).starts (sym c.items-test.ensures.test)) c.in_err-place.ensures)

pub text_items_at-items-smaller : goal.text_items_at-items-smaller
text_items_at-items-smaller t c =
    let s = seen c.args.source.now in
    let lt = goes_forward (fit s) c.args.levels text_item (texts s).one (texts s).some _ _ _ c.in_ok-place.ensures in
    let le : c.items.place < length c.args.source.now.lexemes.now = c.items-test.ensures.within refl in omega arith

pub text_items_at-items-preserved : goal.text_items_at-items-preserved
unfolding text_items
text_items_at-items-preserved t c =
    let s = seen c.args.source.now in
    loop_step (fit s) c.args.levels text_item (texts s).all [] [] _ _ _ c.items.invariant
    (at_first text_item _ _ true (texts s).starts (sym c.items-test.ensures.test)) c.in_ok-place.ensures

pub text_items_at-returns : goal.text_items_at-returns
unfolding text_items
text_items_at-returns t c =
    let s = seen c.args.source.now in
    loop_end (fit s) c.args.levels text_item (texts s).all [] _ _ c.items.invariant
    (at_first text_item _ _ false (texts s).starts (sym c.items-test.ensures.test))
