use Rattle.std.proofs.Common.{◌<◌, true, false, length, refl, sym, arith}
use Rattle.std.proofs.lemmas.Result.{err_from_is_err_and}
use Rattle.sw_parse_grammar.proofs.Loops.{at_first, loop_step, loop_end, loop_fails, goes_forward, group_got, group_unclosed, group_fails}
use Rattle.sw_parse_terminals.specs.declared.terminal.Terminal.TheVariants as T
use Rattle.sw_parse_terminals.specs.Numbers.{just}
use Rattle.sw_parse_table.specs.Sources.{text_of}
use Rattle.sw_parse_table.specs.Table.{forms}
use Rattle.sw_parse_table.specs.Parts.{SpecialItems}
use Rattle.sw_parse_table.specs.Expressions.{special_parens, special_brackets, special_item}
use Rattle.sw_parse_table.proofs.Decided.{fit, loops}
use Rattle.sw_parse_expr_operands.proofs.Choices.{special_item_raw, special_item_insert, special_item_special_value, special_item_special_parens, special_item_special_brackets}
use Rattle.sw_parse_expr_operands.proofs.special.+special.Goals as goal

pub special_parens_at-returns-in_err-list : goal.special_parens_at-returns-in_err-list
unfolding special_parens
special_parens_at-returns-in_err-list g t c =
    let p = err_from_is_err_and c.from_residual.result c.from_residual.ensures.1 in
    rw (p.1, p.2) (group_fails (forms c.args.source.now) (text_of c.args.source.now) (length c.args.source.now.lexemes.now) c.args.levels (just T.RawParen) (just T.RawParenEnd) SpecialItems c.args.at _ (omega arith) (sym c.if-not-is_at.ensures.test) c.in_err-list.ensures)

pub special_parens_at-returns-then-not-is_at-2 : goal.special_parens_at-returns-then-not-is_at-2
unfolding special_parens
special_parens_at-returns-then-not-is_at-2 g t c =
    group_unclosed (forms c.args.source.now) (text_of c.args.source.now) (length c.args.source.now.lexemes.now) c.args.levels (just T.RawParen) (just T.RawParenEnd) SpecialItems c.args.at _ _ (omega arith) (sym c.if-not-is_at.ensures.test) c.in_ok-list.ensures (sym c.if-not-is_at-2.ensures.test)

pub special_parens_at-returns : goal.special_parens_at-returns
unfolding special_parens
special_parens_at-returns g t c =
    group_got (forms c.args.source.now) (text_of c.args.source.now) (length c.args.source.now.lexemes.now) c.args.levels (just T.RawParen) (just T.RawParenEnd) SpecialItems c.args.at _ _ (omega arith) (sym c.if-not-is_at.ensures.test) c.in_ok-list.ensures (sym c.if-not-is_at-2.ensures.test)

pub special_brackets_at-returns-in_err-list : goal.special_brackets_at-returns-in_err-list
unfolding special_brackets
special_brackets_at-returns-in_err-list g t c =
    let p = err_from_is_err_and c.from_residual.result c.from_residual.ensures.1 in
    rw (p.1, p.2) (group_fails (forms c.args.source.now) (text_of c.args.source.now) (length c.args.source.now.lexemes.now) c.args.levels (just T.RawBracket) (just T.RawBracketEnd) SpecialItems c.args.at _ (omega arith) (sym c.if-not-is_at.ensures.test) c.in_err-list.ensures)

pub special_brackets_at-returns-then-not-is_at-2 : goal.special_brackets_at-returns-then-not-is_at-2
unfolding special_brackets
special_brackets_at-returns-then-not-is_at-2 g t c =
    group_unclosed (forms c.args.source.now) (text_of c.args.source.now) (length c.args.source.now.lexemes.now) c.args.levels (just T.RawBracket) (just T.RawBracketEnd) SpecialItems c.args.at _ _ (omega arith) (sym c.if-not-is_at.ensures.test) c.in_ok-list.ensures (sym c.if-not-is_at-2.ensures.test)

pub special_brackets_at-returns : goal.special_brackets_at-returns
unfolding special_brackets
special_brackets_at-returns g t c =
    group_got (forms c.args.source.now) (text_of c.args.source.now) (length c.args.source.now.lexemes.now) c.args.levels (just T.RawBracket) (just T.RawBracketEnd) SpecialItems c.args.at _ _ (omega arith) (sym c.if-not-is_at.ensures.test) c.in_ok-list.ensures (sym c.if-not-is_at-2.ensures.test)

pub special_item_at-returns-then-is_special_text : goal.special_item_at-returns-then-is_special_text
special_item_at-returns-then-is_special_text g t c =
    rw (special_item_raw c.args.source.now c.args.levels c.args.at (sym c.if-is_special_text.ensures.test))
    c.raw_at.ensures

pub special_item_at-returns-then-is_at : goal.special_item_at-returns-then-is_at
special_item_at-returns-then-is_at g t c =
    rw (special_item_insert c.args.source.now c.args.levels c.args.at (sym c.if-is_special_text.ensures.test) (sym c.if-is_at.ensures.test))
    c.insert_alone_at.ensures

pub special_item_at-returns-then-is_special_value : goal.special_item_at-returns-then-is_special_value
special_item_at-returns-then-is_special_value g t c =
    rw (special_item_special_value c.args.source.now c.args.levels c.args.at (sym c.if-is_special_text.ensures.test) (sym c.if-is_at.ensures.test) (sym c.if-is_special_value.ensures.test))
    c.value_alone_at.ensures

pub special_item_at-returns-then-is_at-2 : goal.special_item_at-returns-then-is_at-2
special_item_at-returns-then-is_at-2 g t c =
    rw (special_item_special_parens c.args.source.now c.args.levels c.args.at (sym c.if-is_special_text.ensures.test) (sym c.if-is_at.ensures.test) (sym c.if-is_special_value.ensures.test) (sym c.if-is_at-2.ensures.test))
    c.special_parens_at.ensures

pub special_item_at-returns-else-is_at-2 : goal.special_item_at-returns-else-is_at-2
special_item_at-returns-else-is_at-2 g t c =
    rw (special_item_special_brackets c.args.source.now c.args.levels c.args.at (sym c.if-is_special_text.ensures.test) (sym c.if-is_at.ensures.test) (sym c.if-is_special_value.ensures.test) (sym c.if-is_at-2.ensures.test))
    c.special_brackets_at.ensures

pub special_items_at-returns-in_err-item : goal.special_items_at-returns-in_err-item
special_items_at-returns-in_err-item g t c =
    let p = err_from_is_err_and c.from_residual.result c.from_residual.ensures.1 in
    rw (p.1, p.2) (loop_fails (fit c.args.source.now) c.args.levels (special_item c.args.source.now) (loops c.args.source.now).special_items.all _ _ _ _ c.items.invariant
    (at_first (special_item c.args.source.now) _ _ true (loops c.args.source.now).special_items.starts (sym c.items-test.ensures.test)) c.in_err-item.ensures)

pub special_items_at-items-smaller : goal.special_items_at-items-smaller
special_items_at-items-smaller g t c =
    let lt = goes_forward (fit c.args.source.now) c.args.levels (special_item c.args.source.now) (loops c.args.source.now).special_items.one (loops c.args.source.now).special_items.some _ _ _ c.in_ok-item.ensures in
    let le : c.items.place < length c.args.source.now.lexemes.now = c.items-test.ensures.within refl in omega arith

pub special_items_at-items-preserved : goal.special_items_at-items-preserved
special_items_at-items-preserved g t c =
    rw c.in_ok-list.ensures.more
    (loop_step (fit c.args.source.now) c.args.levels (special_item c.args.source.now) (loops c.args.source.now).special_items.all _ _ _ _ _ c.items.invariant
    (at_first (special_item c.args.source.now) _ _ true (loops c.args.source.now).special_items.starts (sym c.items-test.ensures.test)) c.in_ok-item.ensures)

pub special_items_at-returns : goal.special_items_at-returns
special_items_at-returns g t c =
    loop_end (fit c.args.source.now) c.args.levels (special_item c.args.source.now) (loops c.args.source.now).special_items.all _ _ _ c.items.invariant
    (at_first (special_item c.args.source.now) _ _ false (loops c.args.source.now).special_items.starts (sym c.items-test.ensures.test))
