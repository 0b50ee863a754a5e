use Rattle.std.proofs.Common.{◌<◌, true, false, length, refl, sym, arith}
use Rattle.std.proofs.lemmas.Result.{err_from_is_err_and}
use Rattle.sw_parse_grammar.proofs.Loops.{at_first, loop_step, loop_end, loop_fails, goes_forward}
use Rattle.sw_parse_table.proofs.Decided.{fit}
use Rattle.sw_parse_statement_text.specs.Rows.{comma_member}
use Rattle.sw_parse_statement_text.proofs.Choices.{members}
use Rattle.sw_parse_statement_text.proofs.filter.members_at.Goals as goal

pub returns-in_err-item : goal.returns-in_err-item
returns-in_err-item c =
    let p = err_from_is_err_and c.from_residual.result c.from_residual.ensures.1 in
    rw (p.1, p.2) (loop_fails (fit c.args.source.now) c.args.levels (comma_member c.args.source.now) (members c.args.source.now).all _ _ _ _ c.items.invariant
    (at_first (comma_member c.args.source.now) _ _ true (members c.args.source.now).starts (sym c.items-test.ensures.test)) c.in_err-item.ensures)

pub items-smaller : goal.items-smaller
items-smaller c =
    let lt = goes_forward (fit c.args.source.now) c.args.levels (comma_member c.args.source.now) (members c.args.source.now).one (members c.args.source.now).some _ _ _ c.in_ok-item.ensures in
    let le : c.items.place < length c.args.source.now.lexemes.now = c.items-test.ensures.within refl in omega arith

pub items-preserved : goal.items-preserved
items-preserved c =
    rw c.in_ok-added.ensures.more
    (loop_step (fit c.args.source.now) c.args.levels (comma_member c.args.source.now) (members c.args.source.now).all _ _ _ _ _ c.items.invariant
    (at_first (comma_member c.args.source.now) _ _ true (members c.args.source.now).starts (sym c.items-test.ensures.test)) c.in_ok-item.ensures)

pub returns : goal.returns
returns c =
    loop_end (fit c.args.source.now) c.args.levels (comma_member c.args.source.now) (members c.args.source.now).all _ _ _ c.items.invariant
    (at_first (comma_member c.args.source.now) _ _ false (members c.args.source.now).starts (sym c.items-test.ensures.test))
