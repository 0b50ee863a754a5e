use Rattle.std.proofs.Common.{◌<◌, true, false, length, refl, sym, arith}
use Rattle.std.proofs.lemmas.Result.{err_from_is_err_and}
use Rattle.std.proofs.lemmas.List.{map-append}
use Rattle.sw_parse_grammar.proofs.Loops.{at_first}
use Rattle.sw_parse_grammar.proofs.Seps.{sep_step, sep_last, sep_end, sep_fails, sep_forward}
use Rattle.sw_parse_terminals.specs.declared.terminal.Terminal.TheVariants.{Comma}
use Rattle.sw_parse_terminals.specs.Numbers.{just}
use Rattle.sw_parse_table.specs.Expressions.{argument}
use Rattle.sw_parse_table.proofs.Decided.{fit, loops}
use Rattle.sw_parse_expr_lists.proofs.argument.arguments_at.Goals as goal

pub returns-in_err-item : goal.returns-in_err-item
returns-in_err-item g c =
    let p = err_from_is_err_and c.from_residual.result c.from_residual.ensures.1 in
    rw (p.1, p.2) (sep_fails (fit c.args.source.now) c.args.levels (just Comma) (argument c.args.source.now) (loops c.args.source.now).arguments.all _ _ _ _ c.items.invariant (sym c.items-test.ensures.test) (at_first (argument c.args.source.now) _ _ true (loops c.args.source.now).arguments.starts (sym c.if-not-begins_argument.ensures.test)) c.in_err-item.ensures)

pub items-smaller : goal.items-smaller
items-smaller g c =
    let lt = sep_forward (fit c.args.source.now) c.args.levels (just Comma) (argument c.args.source.now) (loops c.args.source.now).arguments.all _ _ _ c.in_ok-item.ensures in
    let le : c.items.place < length c.args.source.now.lexemes.now = c.items-test.ensures.within refl in omega arith

pub items-preserved : goal.items-preserved
items-preserved g c =
    rw (c.in_ok-push.ensures.items, map-append)
    (sep_step (fit c.args.source.now) c.args.levels (just Comma) (argument c.args.source.now) (loops c.args.source.now).arguments.all _ _ _ _ _ c.items.invariant (sym c.items-test.ensures.test) (at_first (argument c.args.source.now) _ _ true (loops c.args.source.now).arguments.starts (sym c.if-not-begins_argument.ensures.test)) c.in_ok-item.ensures)

pub returns-then-not-begins_argument : goal.returns-then-not-begins_argument
returns-then-not-begins_argument g c =
    rw c.from_vec.ensures (sep_last (fit c.args.source.now) c.args.levels (just Comma) (argument c.args.source.now) (loops c.args.source.now).arguments.all _ _ _ c.items.invariant (sym c.items-test.ensures.test)
    (at_first (argument c.args.source.now) _ _ false (loops c.args.source.now).arguments.starts (sym c.if-not-begins_argument.ensures.test)))

pub returns : goal.returns
returns g c =
    rw c.from_vec-2.ensures (sep_end (fit c.args.source.now) c.args.levels (just Comma) (argument c.args.source.now) (loops c.args.source.now).arguments.all _ _ _ c.items.invariant (sym c.items-test.ensures.test))
