use Rattle.std.proofs.Common.{◌<◌, true, false, length, refl, sym, arith}
use Rattle.std.proofs.lemmas.Result.{err_from_is_err_and}
use Rattle.std.proofs.lemmas.List.{map-append}
use Rattle.sw_parse_grammar.proofs.Loops.{at_first, loop_step, loop_end, loop_fails, goes_forward}
use Rattle.sw_parse_table.specs.Expressions.{link, side}
use Rattle.sw_parse_table.proofs.Decided.{fit, links}
use Rattle.sw_expr_parse.proofs.Climb.{side_alone, side_is, chain_same, chain_links, first_fails, chain_links_fail, climbed, climbing, climbed_all, fewer}
use Rattle.sw_expr_parse.proofs.chain.+chain.Goals as goal

pub links_at-returns-in_err-item : goal.links_at-returns-in_err-item
links_at-returns-in_err-item g t c =
    let p = err_from_is_err_and c.from_residual.result c.from_residual.ensures.1 in
    rw (p.1, p.2) (loop_fails (fit c.args.source.now) c.args.levels (link c.args.source.now c.args.precedence (side c.args.source.now c.args.precedence)) (links c.args.source.now c.args.precedence).all _ _ _ _ c.items.invariant
    (at_first (link c.args.source.now c.args.precedence (side c.args.source.now c.args.precedence)) _ _ true (links c.args.source.now c.args.precedence).starts (sym c.items-test.ensures.test)) c.in_err-item.ensures)

pub links_at-items-smaller : goal.links_at-items-smaller
links_at-items-smaller g t c =
    let lt = goes_forward (fit c.args.source.now) c.args.levels (link c.args.source.now c.args.precedence (side c.args.source.now c.args.precedence)) (links c.args.source.now c.args.precedence).one (links c.args.source.now c.args.precedence).some _ _ _ c.in_ok-item.ensures in
    let le : c.items.place < length c.args.source.now.lexemes.now = c.items-test.ensures.within refl in omega arith

pub links_at-items-preserved : goal.links_at-items-preserved
links_at-items-preserved g t c =
    rw (c.in_ok-push.ensures.items, map-append)
    (loop_step (fit c.args.source.now) c.args.levels (link c.args.source.now c.args.precedence (side c.args.source.now c.args.precedence)) (links c.args.source.now c.args.precedence).all _ _ _ _ _ c.items.invariant
    (at_first (link c.args.source.now c.args.precedence (side c.args.source.now c.args.precedence)) _ _ true (links c.args.source.now c.args.precedence).starts (sym c.items-test.ensures.test)) c.in_ok-item.ensures)

pub links_at-returns : goal.links_at-returns
links_at-returns g t c =
    rw c.from_vec.ensures (loop_end (fit c.args.source.now) c.args.levels (link c.args.source.now c.args.precedence (side c.args.source.now c.args.precedence)) (links c.args.source.now c.args.precedence).all _ _ _ c.items.invariant
    (at_first (link c.args.source.now c.args.precedence (side c.args.source.now c.args.precedence)) _ _ false (links c.args.source.now c.args.precedence).starts (sym c.items-test.ensures.test)))

pub side_at-returns-in-None : goal.side_at-returns-in-None
side_at-returns-in-None g t c = rw (side_alone c.args.source.now c.args.precedence (sym c.in-None.ensures.value)) c.unary_at.ensures

pub side_at-returns-in-Some : goal.side_at-returns-in-Some
side_at-returns-in-Some g t c =
    rw (side_is c.args.source.now c.args.precedence c.in-Some.tighter (sym c.in-Some.ensures.value)) c.chain_at.ensures

pub chain_at-returns-in_err-first : goal.chain_at-returns-in_err-first
chain_at-returns-in_err-first g t c =
    let p = err_from_is_err_and c.from_residual.result c.from_residual.ensures.1 in
    rw (p.1, p.2) (first_fails c.args.source.now c.args.levels c.args.at c.args.precedence _ c.in_err-first.ensures)

pub chain_at-returns-in_err-rest : goal.chain_at-returns-in_err-rest
chain_at-returns-in_err-rest g t c =
    let p = err_from_is_err_and c.from_residual-in_err-rest.result c.from_residual-in_err-rest.ensures.1 in
    let here = climbing c.args.source.now c.args.levels c.args.at c.args.precedence c.bindings.binding c.in-Some.current c.bindings.value c.bindings.place c.in-Some.is c.bindings.invariant in
    rw (p.1, p.2) (chain_links_fail c.args.source.now c.args.levels c.args.at c.in-Some.current c.args.precedence _ _ _ here.0 here.1 c.in_err-rest.ensures)

pub chain_at-bindings-init : goal.chain_at-bindings-init
chain_at-bindings-init g t c = (omega arith, c.in_ok-first.ensures)

pub chain_at-bindings-preserved-then-not-is_operator : goal.chain_at-bindings-preserved-then-not-is_operator
chain_at-bindings-preserved-then-not-is_operator g t c =
    let here = climbing c.args.source.now c.args.levels c.args.at c.args.precedence c.bindings.binding c.in-Some.current c.bindings.value c.bindings.place c.in-Some.is c.bindings.invariant in
    rw c.looser-binding.ensures
    (climbed c.args.source.now c.args.levels c.args.at c.in-Some.current c.args.precedence c.bindings.value c.bindings.place here.0
    (chain_same c.args.source.now c.args.levels c.args.at c.in-Some.current c.bindings.place c.bindings.value here.1 (sym c.if-not-is_operator.ensures.test)))

pub chain_at-bindings-preserved : goal.chain_at-bindings-preserved
chain_at-bindings-preserved g t c =
    let here = climbing c.args.source.now c.args.levels c.args.at c.args.precedence c.bindings.binding c.in-Some.current c.bindings.value c.bindings.place c.in-Some.is c.bindings.invariant in
    rw c.looser-binding.ensures
    (climbed c.args.source.now c.args.levels c.args.at c.in-Some.current c.args.precedence c.in_ok-value.value c.in_ok-rest.next here.0
    (chain_links c.args.source.now c.args.levels c.args.at c.in-Some.current c.bindings.place c.in_ok-rest.next c.bindings.value c.in_ok-value.value _ here.1 c.in_ok-rest.ensures c.in_ok-value.ensures.made))

pub chain_at-bindings-smaller-then-not-is_operator : goal.chain_at-bindings-smaller-then-not-is_operator
chain_at-bindings-smaller-then-not-is_operator g t c =
    let here = climbing c.args.source.now c.args.levels c.args.at c.args.precedence c.bindings.binding c.in-Some.current c.bindings.value c.bindings.place c.in-Some.is c.bindings.invariant in
    rw (c.looser-binding.ensures, c.in-Some.is) (fewer c.in-Some.current c.args.precedence here.0)

pub chain_at-bindings-smaller : goal.chain_at-bindings-smaller
chain_at-bindings-smaller g t c =
    let here = climbing c.args.source.now c.args.levels c.args.at c.args.precedence c.bindings.binding c.in-Some.current c.bindings.value c.bindings.place c.in-Some.is c.bindings.invariant in
    rw (c.looser-binding.ensures, c.in-Some.is) (fewer c.in-Some.current c.args.precedence here.0)

pub chain_at-returns : goal.chain_at-returns
chain_at-returns g t c =
    climbed_all c.args.source.now c.args.levels c.args.at c.args.precedence c.bindings.binding c.bindings.value c.bindings.place c.in_default.is c.bindings.invariant
