use Rattle.std.proofs.Common.{length, sym, arith}
use Rattle.std.proofs.lemmas.Result.{err_from_is_err_and}
use Rattle.sw_parse_grammar.proofs.Loops.{group_got, group_unclosed, group_fails}
use Rattle.sw_parse_terminals.specs.declared.terminal.Terminal.TheVariants as T
use Rattle.sw_parse_terminals.specs.Numbers.{just}
use Rattle.sw_parse_table.specs.Sources.{text_of}
use Rattle.sw_parse_table.specs.Table.{forms}
use Rattle.sw_parse_table.specs.Parts.{SpecialInside}
use Rattle.sw_parse_expr_operands.proofs.special.own_parens_at.Goals as goal

pub returns-in_err-list : goal.returns-in_err-list
returns-in_err-list g c =
    let p = err_from_is_err_and c.from_residual.result c.from_residual.ensures.1 in
    rw (p.1, p.2) (group_fails (forms c.args.source.now) (text_of c.args.source.now) (length c.args.source.now.lexemes.now) c.args.levels (just T.RawParen) (just T.RawParenEnd) SpecialInside c.args.at _ (omega arith) (sym c.if-not-is_at.ensures.test) c.in_err-list.ensures)

pub returns-then-not-is_at-2 : goal.returns-then-not-is_at-2
returns-then-not-is_at-2 g c =
    group_unclosed (forms c.args.source.now) (text_of c.args.source.now) (length c.args.source.now.lexemes.now) c.args.levels (just T.RawParen) (just T.RawParenEnd) SpecialInside c.args.at _ _ (omega arith) (sym c.if-not-is_at.ensures.test) c.in_ok-list.ensures (sym c.if-not-is_at-2.ensures.test)

pub returns : goal.returns
returns g c =
    group_got (forms c.args.source.now) (text_of c.args.source.now) (length c.args.source.now.lexemes.now) c.args.levels (just T.RawParen) (just T.RawParenEnd) SpecialInside c.args.at _ _ (omega arith) (sym c.if-not-is_at.ensures.test) c.in_ok-list.ensures (sym c.if-not-is_at-2.ensures.test)
