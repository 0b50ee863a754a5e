use Rattle.std.proofs.Common.{◌<◌, true, false, List, map, length, refl, sym, ap, arith}
use Rattle.std.proofs.lemmas.Result.{err_from_is_err_and}
use Rattle.sw_parse_grammar.proofs.Loops.{at_first, loop_end, loop_fails, goes_forward}
use Rattle.sw_tree.specs.declared.statement.Statement.{Statement}
use Rattle.sw_parse_table.specs.Parts.{States}
use Rattle.sw_parse_table.specs.Statements.{statement}
use Rattle.sw_parse_table.proofs.Decided.{fit}
use Rattle.sw_scss_parse.proofs.Behind.{read_behind, fails_alone, step_behind}
use Rattle.sw_scss_parse.proofs.Choices.{repeated}
use Rattle.sw_scss_parse.proofs.statements.statements_by.Goals as goal

pub returns-in_err-next : goal.returns-in_err-next
returns-in_err-next g c =
    let p = err_from_is_err_and c.from_residual-in_err-next.result c.from_residual-in_err-next.ensures.1 in
    rw (p.1, p.2) (loop_fails (fit c.args.source.now) c.args.levels (statement c.args.source.now) (repeated c.args.source.now).all _ _ _ _ c.items.invariant
    (at_first (statement c.args.source.now) _ _ true (repeated c.args.source.now).starts (sym c.items-test.ensures.test)) (fails_alone _ _ _ c.in_err-next.ensures))

pub items-smaller : goal.items-smaller
items-smaller g c =
    let alone = read_behind _ _ _ _ c.in_ok-next.ensures in
    let lt = goes_forward (fit c.args.source.now) c.args.levels (statement c.args.source.now) (repeated c.args.source.now).one (repeated c.args.source.now).some _ _ _ alone.1 in
    let le : c.items.place < length c.args.source.now.lexemes.now = c.items-test.ensures.within refl in omega arith

pub items-preserved : goal.items-preserved
items-preserved g c =
    step_behind (fit c.args.source.now) c.args.levels (statement c.args.source.now) (repeated c.args.source.now).all _ _ _ _ _ _
    (ap (λ (list : List Statement). map States list) c.make_room.ensures.same) c.items.invariant
    (at_first (statement c.args.source.now) _ _ true (repeated c.args.source.now).starts (sym c.items-test.ensures.test)) c.in_ok-next.ensures

pub returns : goal.returns
returns g c =
    rw (c.from_vec.ensures, c.shrink_to_fit.ensures.items) (loop_end (fit c.args.source.now) c.args.levels (statement c.args.source.now) (repeated c.args.source.now).all _ _ _ c.items.invariant
    (at_first (statement c.args.source.now) _ _ false (repeated c.args.source.now).starts (sym c.items-test.ensures.test)))
