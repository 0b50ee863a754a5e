use Rattle.std.proofs.Common.{sym}
use Rattle.std.proofs.lemmas.Result.{err_from_is_err_and}
use Rattle.sw_parse_terminals.specs.declared.terminal.Terminal.TheVariants as T
use Rattle.sw_parse_css.specs.Seen.{seen}
use Rattle.sw_parse_css.specs.Sheets.{to_at_rule, at_rule}
use Rattle.sw_parse_css.specs.Rows.{body_parts, form_of, at_rest}
use Rattle.sw_parse_css.proofs.Named.{statement_got, statement_fails}
use Rattle.sw_parse_css.proofs.statement.at_rule_at.Goals as goal

pub returns-in_err-body : goal.returns-in_err-body
unfolding at_rule
returns-in_err-body g c =
    let p = err_from_is_err_and c.from_residual.result c.from_residual.ensures.1 in
    let s = seen c.args.source.now in
    rw (p.1, p.2) (statement_fails s (to_at_rule s) T.AtOther (at_rest s (form_of c.args.within)) c.args.levels c.args.at _ (sym c.if-not-is_at.ensures.test) c.in_err-body.ensures)

pub returns : goal.returns
unfolding at_rule
returns g c =
    let s = seen c.args.source.now in
    statement_got s (to_at_rule s) T.AtOther (at_rest s (form_of c.args.within)) c.args.levels c.args.at c.in_ok-body.place (body_parts c.in_ok-body.body) _ (sym c.if-not-is_at.ensures.test) c.in_ok-body.ensures
    (rw c.in_ok-statement.ensures.made at c.at_rule_of.ensures)
