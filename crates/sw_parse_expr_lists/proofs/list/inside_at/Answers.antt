use Rattle.std.proofs.Common.{sym, refl}
use Rattle.std.proofs.lemmas.Result.{err_from_is_err_and}
use Rattle.sw_parse_expr_lists.proofs.Choices.{inside_none, inside_fails, inside_pairs, inside_pairs_fails, inside_items, inside_items_fails}
use Rattle.sw_parse_expr_nodes.proofs.Collected.{values_of_values}
use Rattle.sw_parse_expr_lists.proofs.list.inside_at.Goals as goal

pub returns-then-not-begins_value : goal.returns-then-not-begins_value
returns-then-not-begins_value g c =
    inside_none c.args.source.now c.args.levels c.args.at (sym c.if-not-begins_value.ensures.test)

pub returns-in_err-first : goal.returns-in_err-first
returns-in_err-first g c =
    let p = err_from_is_err_and c.from_residual.result c.from_residual.ensures.1 in
    rw (p.1, p.2) (inside_fails c.args.source.now c.args.levels c.args.at _ (sym c.if-not-begins_value.ensures.test) c.in_err-first.ensures)

pub returns-in-Ok : goal.returns-in-Ok
returns-in-Ok g c =
    inside_pairs c.args.source.now c.args.levels c.args.at _ _ _ _ (sym c.if-not-begins_value.ensures.test) c.in_ok-first.ensures (sym c.if-is_at.ensures.test) c.in-Ok.ensures

pub returns-in-Err : goal.returns-in-Err
returns-in-Err g c =
    rw c.given_up.ensures (inside_pairs_fails c.args.source.now c.args.levels c.args.at _ _ _ (sym c.if-not-begins_value.ensures.test) c.in_ok-first.ensures (sym c.if-is_at.ensures.test) c.in-Err.ensures)

pub returns-in_ok-value-in-Ok-items_rest_at : goal.returns-in_ok-value-in-Ok-items_rest_at
returns-in_ok-value-in-Ok-items_rest_at g c =
    let step = inside_items c.args.source.now c.args.levels c.args.at _ _ _ _ (sym c.if-not-begins_value.ensures.test) c.in_ok-first.ensures (sym c.if-is_at.ensures.test) c.in-Ok-items_rest_at.ensures in
    rw (step, values_of_values, c.in_ok-value-in-Ok-items_rest_at.ensures.made) refl

pub returns-in-Err-items_rest_at : goal.returns-in-Err-items_rest_at
returns-in-Err-items_rest_at g c =
    rw c.given_up-in-Err-items_rest_at.ensures (inside_items_fails c.args.source.now c.args.levels c.args.at _ _ _ (sym c.if-not-begins_value.ensures.test) c.in_ok-first.ensures (sym c.if-is_at.ensures.test) c.in-Err-items_rest_at.ensures)
