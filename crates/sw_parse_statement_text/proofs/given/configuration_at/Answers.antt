use Rattle.std.proofs.Common.{◌+◌, ◌-◌, length, sym, ap, ◌∙◌, arith}
use Rattle.std.proofs.lemmas.Result.{err_from_is_err_and}
use Rattle.sw_parse_grammar.specs.Grammar.{Grammar}
use Rattle.sw_parse_grammar.proofs.Loops.{group_got, group_unclosed}
use Rattle.sw_parse_terminals.specs.declared.terminal.Terminal.TheVariants as T
use Rattle.sw_parse_terminals.specs.Numbers.{just}
use Rattle.sw_parse_table.specs.Parts.{Part, Form}
use Rattle.sw_parse_table.specs.Sources.{text_of}
use Rattle.sw_parse_table.specs.Table.{forms}
use Rattle.sw_parse_table.specs.Reads.{reader}
use Rattle.sw_parse_statement_text.specs.Loads.{form_of}
use Rattle.sw_parse_statement_text.proofs.Loads.{form_is, configuration_fails}
use Rattle.sw_parse_statement_text.proofs.given.configuration_at.Goals as goal

pub returns-in_err-list : goal.returns-in_err-list
returns-in_err-list g c =
    let p = err_from_is_err_and c.from_residual.result c.from_residual.ensures.1 in
    rw (p.1, p.2) (configuration_fails c.args.source.now c.args.levels c.args.at c.args.load _ (omega arith) (sym c.if-not-is_at.ensures.test) c.in_err-list.ensures)

pub returns-then-not-is_at-2 : goal.returns-then-not-is_at-2
returns-then-not-is_at-2 g c =
    let s = c.args.source.now in
    group_unclosed (forms s) (text_of s) (length s.lexemes.now) c.args.levels (just T.HeadParen) (just T.ParenEnd) (form_of c.args.load) c.args.at _ _ (omega arith) (sym c.if-not-is_at.ensures.test)
    (ap (λ (form : Grammar Part Form). reader s (c.args.levels - 1) form (c.args.at + 1)) (form_is s c.args.load) ∙ c.in_ok-list.ensures) (sym c.if-not-is_at-2.ensures.test)

pub returns : goal.returns
returns g c =
    let s = c.args.source.now in
    group_got (forms s) (text_of s) (length s.lexemes.now) c.args.levels (just T.HeadParen) (just T.ParenEnd) (form_of c.args.load) c.args.at _ _ (omega arith) (sym c.if-not-is_at.ensures.test)
    (ap (λ (form : Grammar Part Form). reader s (c.args.levels - 1) form (c.args.at + 1)) (form_is s c.args.load) ∙ c.in_ok-list.ensures) (sym c.if-not-is_at-2.ensures.test)
