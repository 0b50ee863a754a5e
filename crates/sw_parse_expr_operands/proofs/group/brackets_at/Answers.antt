use Rattle.std.proofs.Common.{◌+◌, length, sym, ap, ◌∙◌, List, arith}
use Rattle.std.proofs.lemmas.Result.{err_from_is_err_and}
use Rattle.sw_parse_grammar.specs.Grammar.{group, Got}
use Rattle.sw_parse_grammar.specs.declared.ReadError.TheVariants as ends
use Rattle.sw_parse_grammar.proofs.Loops.{read_act, fails_act, group_got, group_unclosed, group_fails}
use Rattle.sw_parse_terminals.specs.declared.terminal.Terminal.TheVariants as T
use Rattle.sw_parse_terminals.specs.Numbers.{just}
use Rattle.sw_parse_table.specs.Sources.{text_of}
use Rattle.sw_parse_table.specs.Table.{forms}
use Rattle.sw_parse_table.specs.Parts.{Part, Items}
use Rattle.sw_parse_table.specs.Values.{to_brackets}
use Rattle.sw_parse_table.specs.Expressions.{brackets}
use Rattle.sw_parse_expr_operands.proofs.group.brackets_at.Goals as goal

pub returns-in_err-inner : goal.returns-in_err-inner
unfolding brackets
returns-in_err-inner g c =
    let p = err_from_is_err_and c.from_residual.result c.from_residual.ensures.1 in
    rw (p.1, p.2) (fails_act (forms c.args.source.now) (text_of c.args.source.now) (length c.args.source.now.lexemes.now) c.args.levels (to_brackets c.args.source.now) (group (just T.Bracket) Items (just T.BracketEnd)) c.args.at _
    (group_fails (forms c.args.source.now) (text_of c.args.source.now) (length c.args.source.now.lexemes.now) c.args.levels (just T.Bracket) (just T.BracketEnd) Items c.args.at _ (omega arith) (sym c.if-not-is_at.ensures.test) c.in_err-inner.ensures))

pub returns-then-not-is_at-2 : goal.returns-then-not-is_at-2
unfolding brackets
returns-then-not-is_at-2 g c =
    rw c.given_up.ensures (fails_act (forms c.args.source.now) (text_of c.args.source.now) (length c.args.source.now.lexemes.now) c.args.levels (to_brackets c.args.source.now) (group (just T.Bracket) Items (just T.BracketEnd)) c.args.at (ends.Unexpected _)
    (group_unclosed (forms c.args.source.now) (text_of c.args.source.now) (length c.args.source.now.lexemes.now) c.args.levels (just T.Bracket) (just T.BracketEnd) Items c.args.at _ _ (omega arith) (sym c.if-not-is_at.ensures.test) c.in_ok-inner.ensures (sym c.if-not-is_at-2.ensures.test)))

pub returns : goal.returns
unfolding brackets
returns g c =
    read_act (forms c.args.source.now) (text_of c.args.source.now) (length c.args.source.now.lexemes.now) c.args.levels (to_brackets c.args.source.now) (group (just T.Bracket) Items (just T.BracketEnd)) c.args.at _ _
    (group_got (forms c.args.source.now) (text_of c.args.source.now) (length c.args.source.now.lexemes.now) c.args.levels (just T.Bracket) (just T.BracketEnd) Items c.args.at _ _ (omega arith) (sym c.if-not-is_at.ensures.test) c.in_ok-inner.ensures (sym c.if-not-is_at-2.ensures.test))
    ∙ ap (λ (x : List Part). Got x (c.in_ok-inner.place + 1)) c.in_ok-value.ensures.made
