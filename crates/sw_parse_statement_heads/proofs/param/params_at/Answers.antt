use Rattle.std.proofs.Common.{length, sym, arith}
use Rattle.std.proofs.lemmas.Result.{err_from_is_err_and}
use Rattle.sw_parse_grammar.proofs.Loops.{group_got, group_unclosed, group_fails}
use Rattle.sw_parse_terminals.specs.declared.terminal.Terminal.TheVariants as T
use Rattle.sw_parse_terminals.specs.Numbers.{just}
use Rattle.sw_parse_table.specs.Sources.{text_of}
use Rattle.sw_parse_table.specs.Table.{forms}
use Rattle.sw_parse_table.specs.Parts.{Taking}
use Rattle.sw_parse_table.specs.Statements.{params}
use Rattle.sw_parse_statement_heads.proofs.param.params_at.Goals as goal

pub returns-in_err-read : goal.returns-in_err-read
unfolding params
returns-in_err-read c =
    let p = err_from_is_err_and c.from_residual.result c.from_residual.ensures.1 in
    rw (p.1, p.2) (group_fails (forms c.args.source.now) (text_of c.args.source.now) (length c.args.source.now.lexemes.now) c.args.levels (just T.HeadParen) (just T.ParenEnd) Taking c.args.at _ (omega arith) (sym c.if-not-is_at.ensures.test) c.in_err-read.ensures)

pub returns-then-not-is_at-2 : goal.returns-then-not-is_at-2
unfolding params
returns-then-not-is_at-2 c =
    group_unclosed (forms c.args.source.now) (text_of c.args.source.now) (length c.args.source.now.lexemes.now) c.args.levels (just T.HeadParen) (just T.ParenEnd) Taking c.args.at _ _ (omega arith) (sym c.if-not-is_at.ensures.test) c.in_ok-read.ensures (sym c.if-not-is_at-2.ensures.test)

pub returns : goal.returns
unfolding params
returns c =
    group_got (forms c.args.source.now) (text_of c.args.source.now) (length c.args.source.now.lexemes.now) c.args.levels (just T.HeadParen) (just T.ParenEnd) Taking c.args.at _ _ (omega arith) (sym c.if-not-is_at.ensures.test) c.in_ok-read.ensures (sym c.if-not-is_at-2.ensures.test)
