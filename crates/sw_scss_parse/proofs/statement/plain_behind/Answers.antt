use Rattle.std.proofs.Common.{◌+◌, length, sym}
use Rattle.sw_parse_grammar.proofs.Loops.{read_skip}
use Rattle.sw_parse_terminals.specs.declared.terminal.Terminal.TheVariants as T
use Rattle.sw_parse_terminals.specs.Numbers.{just}
use Rattle.sw_parse_table.specs.Sources.{text_of}
use Rattle.sw_parse_table.specs.Table.{forms}
use Rattle.sw_scss_parse.proofs.Choices.{plain_statement_semicolon, plain_statement_ruled}
use Rattle.sw_scss_parse.proofs.Behind.{nothing_behind}
use Rattle.sw_scss_parse.proofs.statement.plain_behind.Goals as goal

pub returns-then-is_at : goal.returns-then-is_at
returns-then-is_at g c =
    let s = c.args.source.now in
    nothing_behind _ _ (c.args.at + 1)
    (rw (plain_statement_semicolon s c.args.levels c.args.at (sym c.if-is_at.ensures.test))
    (read_skip (forms s) (text_of s) (length s.lexemes.now) c.args.levels (just T.Semicolon) c.args.at (sym c.if-is_at.ensures.test)))

pub returns : goal.returns
returns g c =
    rw (plain_statement_ruled c.args.source.now c.args.levels c.args.at (sym c.if-is_at.ensures.test)) c.ruled_behind.ensures
