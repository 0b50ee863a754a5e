use Rattle.std.proofs.Common.{◌<◌, true, false, length, refl, sym, arith}
use Rattle.std.proofs.lemmas.Result.{err_from_is_err_and}
use Rattle.std.proofs.lemmas.List.{map-append}
use Rattle.sw_parse_grammar.proofs.Loops.{at_first, loop_step, loop_end, loop_fails, goes_forward}
use Rattle.sw_parse_table.specs.Expressions.{prefix}
use Rattle.sw_parse_table.proofs.Decided.{fit, loops}
use Rattle.sw_parse_expr_lists.proofs.sign.prefixes_at.Goals as goal

pub returns-in_err-item : goal.returns-in_err-item
returns-in_err-item c =
    let p = err_from_is_err_and c.from_residual.result c.from_residual.ensures.1 in
    rw (p.1, p.2) (loop_fails (fit c.args.source.now) c.args.levels (prefix c.args.source.now) (loops c.args.source.now).signs.all _ _ _ _ c.items.invariant (at_first (prefix c.args.source.now) _ _ true (loops c.args.source.now).signs.starts (sym c.items-test.ensures.test)) c.in_err-item.ensures)

pub items-smaller : goal.items-smaller
items-smaller c =
    let lt = goes_forward (fit c.args.source.now) c.args.levels (prefix c.args.source.now) (loops c.args.source.now).signs.one (loops c.args.source.now).signs.some _ _ _ c.in_ok-item.ensures in
    let le : c.items.place < length c.args.source.now.lexemes.now = c.items-test.ensures.within refl in omega arith

pub items-preserved : goal.items-preserved
items-preserved c =
    rw (c.in_ok-push.ensures.items, map-append)
    (loop_step (fit c.args.source.now) c.args.levels (prefix c.args.source.now) (loops c.args.source.now).signs.all _ _ _ _ _ c.items.invariant (at_first (prefix c.args.source.now) _ _ true (loops c.args.source.now).signs.starts (sym c.items-test.ensures.test)) c.in_ok-item.ensures)

pub returns : goal.returns
returns c =
    rw c.from_vec.ensures (loop_end (fit c.args.source.now) c.args.levels (prefix c.args.source.now) (loops c.args.source.now).signs.all _ _ _ c.items.invariant
    (at_first (prefix c.args.source.now) _ _ false (loops c.args.source.now).signs.starts (sym c.items-test.ensures.test)))
