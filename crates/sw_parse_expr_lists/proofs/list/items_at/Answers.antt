use Rattle.std.proofs.Common.{sym}
use Rattle.std.proofs.lemmas.Result.{err_from_is_err_and}
use Rattle.sw_parse_expr_lists.proofs.Choices.{items_none, items_expr}
use Rattle.sw_parse_expr_lists.proofs.list.items_at.Goals as goal

pub returns-then-not-begins_value : goal.returns-then-not-begins_value
returns-then-not-begins_value g c =
    items_none c.args.source.now c.args.levels c.args.at (sym c.if-not-begins_value.ensures.test)

pub returns-in_err-value : goal.returns-in_err-value
returns-in_err-value g c =
    let p = err_from_is_err_and c.from_residual.result c.from_residual.ensures.1 in
    rw (p.1, p.2) (rw (items_expr c.args.source.now c.args.levels c.args.at (sym c.if-not-begins_value.ensures.test)) c.in_err-value.ensures)

pub returns : goal.returns
returns g c =
    rw (items_expr c.args.source.now c.args.levels c.args.at (sym c.if-not-begins_value.ensures.test)) c.in_ok-value.ensures
