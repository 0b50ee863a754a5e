use Rattle.std.proofs.Common.{length, sym, arith}
use Rattle.std.proofs.lemmas.Result.{err_from_is_err_and}
use Rattle.sw_parse_grammar.specs.Grammar.{group}
use Rattle.sw_parse_grammar.specs.declared.ReadError.TheVariants as ends
use Rattle.sw_parse_grammar.proofs.Loops.{read_act, fails_act, group_got, group_unclosed, group_fails}
use Rattle.sw_parse_terminals.specs.declared.terminal.Terminal.TheVariants as T
use Rattle.sw_parse_terminals.specs.Numbers.{just}
use Rattle.sw_parse_table.specs.Sources.{text_of}
use Rattle.sw_parse_table.specs.Table.{forms}
use Rattle.sw_parse_table.specs.Parts.{Value}
use Rattle.sw_parse_table.specs.Values.{to_insert}
use Rattle.sw_parse_expr_lists.proofs.word.insert_at.Goals as goal

pub returns-in_err-value : goal.returns-in_err-value
returns-in_err-value g c =
    let p = err_from_is_err_and c.from_residual.result c.from_residual.ensures.1 in
    rw (p.1, p.2) (fails_act (forms c.args.source.now) (text_of c.args.source.now) (length c.args.source.now.lexemes.now) c.args.levels (to_insert c.args.source.now) (group (just c.args.opening) Value (just T.InsertEnd)) c.args.at _ (group_fails (forms c.args.source.now) (text_of c.args.source.now) (length c.args.source.now.lexemes.now) c.args.levels (just c.args.opening) (just T.InsertEnd) Value c.args.at _ (omega arith) (sym c.if-not-is_at.ensures.test) c.in_err-value.ensures))

pub returns-then-not-is_at-2 : goal.returns-then-not-is_at-2
returns-then-not-is_at-2 g c =
    rw c.given_up.ensures (fails_act (forms c.args.source.now) (text_of c.args.source.now) (length c.args.source.now.lexemes.now) c.args.levels (to_insert c.args.source.now) (group (just c.args.opening) Value (just T.InsertEnd)) c.args.at (ends.Unexpected _) (group_unclosed (forms c.args.source.now) (text_of c.args.source.now) (length c.args.source.now.lexemes.now) c.args.levels (just c.args.opening) (just T.InsertEnd) Value c.args.at _ _ (omega arith) (sym c.if-not-is_at.ensures.test) c.in_ok-value.ensures (sym c.if-not-is_at-2.ensures.test)))

pub returns : goal.returns
returns g c =
    read_act (forms c.args.source.now) (text_of c.args.source.now) (length c.args.source.now.lexemes.now) c.args.levels (to_insert c.args.source.now) (group (just c.args.opening) Value (just T.InsertEnd)) c.args.at _ _ (group_got (forms c.args.source.now) (text_of c.args.source.now) (length c.args.source.now.lexemes.now) c.args.levels (just c.args.opening) (just T.InsertEnd) Value c.args.at _ _ (omega arith) (sym c.if-not-is_at.ensures.test) c.in_ok-value.ensures (sym c.if-not-is_at-2.ensures.test))
