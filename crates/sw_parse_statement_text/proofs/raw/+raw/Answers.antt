use Rattle.std.proofs.Common.{◌<◌, true, false, length, refl, sym, arith}
use Rattle.std.proofs.lemmas.Result.{err_from_is_err_and}
use Rattle.sw_parse_grammar.specs.Readers.{parse}
use Rattle.sw_parse_grammar.proofs.Loops.{at_first, loop_step, loop_end, loop_fails, goes_forward, group_got, group_unclosed, group_fails, read_skip}
use Rattle.sw_parse_terminals.specs.declared.terminal.Terminal.TheVariants as T
use Rattle.sw_parse_terminals.specs.Numbers.{just}
use Rattle.sw_parse_table.specs.Sources.{text_of}
use Rattle.sw_parse_table.specs.Table.{forms}
use Rattle.sw_parse_table.specs.Parts.{RawInside}
use Rattle.sw_parse_table.specs.Statements.{raw_item, raw_inside}
use Rattle.sw_parse_table.proofs.Decided.{fit}
use Rattle.sw_parse_statement_text.proofs.Choices.{raw_items, item_raw, item_paren, item_bracket, item_brace, item_insert}
use Rattle.sw_parse_statement_text.proofs.raw.+raw.Goals as goal

pub raw_group_at-returns-in_err-list : goal.raw_group_at-returns-in_err-list
unfolding raw_inside
raw_group_at-returns-in_err-list g t c =
    let p = err_from_is_err_and c.from_residual.result c.from_residual.ensures.1 in
    rw (p.1, p.2) (group_fails (forms c.args.source.now) (text_of c.args.source.now) (length c.args.source.now.lexemes.now) c.args.levels (just c.args.brackets.0) (just c.args.brackets.1) RawInside c.args.at _ (omega arith) (sym c.if-not-is_at.ensures.test) c.in_err-list.ensures)

pub raw_group_at-returns-then-not-is_at-2 : goal.raw_group_at-returns-then-not-is_at-2
unfolding raw_inside
raw_group_at-returns-then-not-is_at-2 g t c =
    group_unclosed (forms c.args.source.now) (text_of c.args.source.now) (length c.args.source.now.lexemes.now) c.args.levels (just c.args.brackets.0) (just c.args.brackets.1) RawInside c.args.at _ _ (omega arith) (sym c.if-not-is_at.ensures.test) c.in_ok-list.ensures (sym c.if-not-is_at-2.ensures.test)

pub raw_group_at-returns : goal.raw_group_at-returns
unfolding raw_inside
raw_group_at-returns g t c =
    group_got (forms c.args.source.now) (text_of c.args.source.now) (length c.args.source.now.lexemes.now) c.args.levels (just c.args.brackets.0) (just c.args.brackets.1) RawInside c.args.at _ _ (omega arith) (sym c.if-not-is_at.ensures.test) c.in_ok-list.ensures (sym c.if-not-is_at-2.ensures.test)

pub raw_item_at-returns-then-is_at : goal.raw_item_at-returns-then-is_at
raw_item_at-returns-then-is_at g t c =
    rw (c.new.ensures, item_raw c.args.source.now c.args.levels c.args.at (sym c.if-is_at.ensures.test))
    (read_skip (forms c.args.source.now) (text_of c.args.source.now) (length c.args.source.now.lexemes.now) c.args.levels (just T.Raw) c.args.at (sym c.if-is_at.ensures.test))

pub raw_item_at-returns-then-is_at-2 : goal.raw_item_at-returns-then-is_at-2
raw_item_at-returns-then-is_at-2 g t c =
    rw (item_paren c.args.source.now c.args.levels c.args.at (sym c.if-is_at.ensures.test) (sym c.if-is_at-2.ensures.test))
    c.raw_group_at.ensures

pub raw_item_at-returns-then-is_at-3 : goal.raw_item_at-returns-then-is_at-3
raw_item_at-returns-then-is_at-3 g t c =
    rw (item_bracket c.args.source.now c.args.levels c.args.at (sym c.if-is_at.ensures.test) (sym c.if-is_at-2.ensures.test) (sym c.if-is_at-3.ensures.test))
    c.raw_group_at-then-is_at-3.ensures

pub raw_item_at-returns-then-is_at-4 : goal.raw_item_at-returns-then-is_at-4
raw_item_at-returns-then-is_at-4 g t c =
    rw (item_brace c.args.source.now c.args.levels c.args.at (sym c.if-is_at.ensures.test) (sym c.if-is_at-2.ensures.test) (sym c.if-is_at-3.ensures.test) (sym c.if-is_at-4.ensures.test))
    c.raw_group_at-then-is_at-4.ensures

pub raw_item_at-returns-else-is_at-4 : goal.raw_item_at-returns-else-is_at-4
raw_item_at-returns-else-is_at-4 g t c =
    rw (item_insert c.args.source.now c.args.levels c.args.at (sym c.if-is_at.ensures.test) (sym c.if-is_at-2.ensures.test) (sym c.if-is_at-3.ensures.test) (sym c.if-is_at-4.ensures.test))
    c.insert_alone_at.ensures

pub raw_items_at-returns-in_err-item : goal.raw_items_at-returns-in_err-item
raw_items_at-returns-in_err-item g t c =
    let p = err_from_is_err_and c.from_residual.result c.from_residual.ensures.1 in
    rw (p.1, p.2) (loop_fails (fit c.args.source.now) c.args.levels (raw_item c.args.source.now) (raw_items c.args.source.now).all _ _ _ _ c.items.invariant
    (at_first (raw_item c.args.source.now) _ _ true (raw_items c.args.source.now).starts (sym c.items-test.ensures.test)) c.in_err-item.ensures)

pub raw_items_at-items-smaller : goal.raw_items_at-items-smaller
raw_items_at-items-smaller g t c =
    let lt = goes_forward (fit c.args.source.now) c.args.levels (raw_item c.args.source.now) (raw_items c.args.source.now).one (raw_items c.args.source.now).some _ _ _ c.in_ok-item.ensures in
    let le : c.items.place < length c.args.source.now.lexemes.now = c.items-test.ensures.within refl in omega arith

pub raw_items_at-items-preserved : goal.raw_items_at-items-preserved
raw_items_at-items-preserved g t c =
    rw c.in_ok-list.ensures.more
    (loop_step (fit c.args.source.now) c.args.levels (raw_item c.args.source.now) (raw_items c.args.source.now).all _ _ _ _ _ c.items.invariant
    (at_first (raw_item c.args.source.now) _ _ true (raw_items c.args.source.now).starts (sym c.items-test.ensures.test)) c.in_ok-item.ensures)

pub raw_items_at-returns : goal.raw_items_at-returns
raw_items_at-returns g t c =
    loop_end (fit c.args.source.now) c.args.levels (raw_item c.args.source.now) (raw_items c.args.source.now).all _ _ _ c.items.invariant
    (at_first (raw_item c.args.source.now) _ _ false (raw_items c.args.source.now).starts (sym c.items-test.ensures.test))
