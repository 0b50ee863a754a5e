use Rattle.std.proofs.Common.{sym}
use Rattle.std.proofs.lemmas.Result.{err_from_is_err_and}
use Rattle.sw_parse_terminals.specs.declared.terminal.Terminal.TheVariants as T
use Rattle.sw_parse_css.specs.Seen.{seen}
use Rattle.sw_parse_css.specs.Sheets.{to_named, named}
use Rattle.sw_parse_css.specs.Rows.{body_parts, named_rest}
use Rattle.sw_parse_css.proofs.Named.{statement_got, statement_fails}
use Rattle.sw_parse_css.proofs.statement.named_at.Goals as goal

pub returns-in_err-body : goal.returns-in_err-body
unfolding named
returns-in_err-body g c =
    let p = err_from_is_err_and c.from_residual.result c.from_residual.ensures.1 in
    let s = seen c.args.source.now in
    rw (p.1, p.2) (statement_fails s (to_named s) T.Word (named_rest s) c.args.levels c.args.at _ (sym c.if-not-is_at.ensures.test) c.in_err-body.ensures)

pub returns : goal.returns
unfolding named
returns g c =
    let s = seen c.args.source.now in
    statement_got s (to_named s) T.Word (named_rest s) c.args.levels c.args.at c.in_ok-body.place (body_parts c.in_ok-body.body) _ (sym c.if-not-is_at.ensures.test) c.in_ok-body.ensures
    (rw c.in_ok-statement.ensures.made at c.named_of.ensures)
