use Rattle.std.proofs.Common.{◌<◌, true, false, length, refl, sym, arith}
use Rattle.std.proofs.lemmas.Result.{err_from_is_err_and}
use Rattle.sw_parse_grammar.proofs.Loops.{at_first}
use Rattle.sw_parse_grammar.proofs.Seps.{sep_step, sep_last, sep_end, sep_fails, sep_forward}
use Rattle.sw_parse_terminals.specs.declared.terminal.Terminal.TheVariants.{Comma}
use Rattle.sw_parse_terminals.specs.Numbers.{just}
use Rattle.sw_parse_table.proofs.Decided.{fit}
use Rattle.sw_parse_statement_text.specs.Loads.{given_row}
use Rattle.sw_parse_statement_text.proofs.Loads.{givens}
use Rattle.sw_parse_statement_text.proofs.given.givens_at.Goals as goal

pub returns-in_err-item : goal.returns-in_err-item
returns-in_err-item g c =
    let p = err_from_is_err_and c.from_residual.result c.from_residual.ensures.1 in
    let row = given_row c.args.source.now c.args.load in
    rw (p.1, p.2) (sep_fails (fit c.args.source.now) c.args.levels (just Comma) row (givens c.args.source.now c.args.load).all _ _ _ _ c.items.invariant (sym c.items-test.ensures.test)
    (at_first row _ _ true (givens c.args.source.now c.args.load).starts (sym c.if-not-is_dollar.ensures.test)) c.in_err-item.ensures)

pub items-smaller : goal.items-smaller
items-smaller g c =
    let lt = sep_forward (fit c.args.source.now) c.args.levels (just Comma) (given_row c.args.source.now c.args.load) (givens c.args.source.now c.args.load).all _ _ _ c.in_ok-item.ensures in
    let le : c.items.place < length c.args.source.now.lexemes.now = c.items-test.ensures.within refl in omega arith

pub items-preserved : goal.items-preserved
items-preserved g c =
    let row = given_row c.args.source.now c.args.load in
    rw c.in_ok-added.ensures.more
    (sep_step (fit c.args.source.now) c.args.levels (just Comma) row (givens c.args.source.now c.args.load).all _ _ _ _ _ c.items.invariant (sym c.items-test.ensures.test)
    (at_first row _ _ true (givens c.args.source.now c.args.load).starts (sym c.if-not-is_dollar.ensures.test)) c.in_ok-item.ensures)

pub returns-then-not-is_dollar : goal.returns-then-not-is_dollar
returns-then-not-is_dollar g c =
    let row = given_row c.args.source.now c.args.load in
    sep_last (fit c.args.source.now) c.args.levels (just Comma) row (givens c.args.source.now c.args.load).all _ _ _ c.items.invariant (sym c.items-test.ensures.test)
    (at_first row _ _ false (givens c.args.source.now c.args.load).starts (sym c.if-not-is_dollar.ensures.test))

pub returns : goal.returns
returns g c =
    sep_end (fit c.args.source.now) c.args.levels (just Comma) (given_row c.args.source.now c.args.load) (givens c.args.source.now c.args.load).all _ _ _ c.items.invariant (sym c.items-test.ensures.test)
