use Rattle.std.proofs.Common.{sym}
use Rattle.std.proofs.lemmas.Result.{err_from_is_err_and}
use Rattle.sw_parse_expr_lists.proofs.Choices.{arguing_none, arguing_fails, arguing_rest_fails, arguing_read}
use Rattle.std.proofs.Common.{rules}
use Rattle.sw_parse_expr_nodes.proofs.Collected.{arguments_of_arguments}
use Rattle.sw_parse_expr_lists.proofs.argument.arguing_at.Goals as goal

pub returns-then-not-begins_argument : goal.returns-then-not-begins_argument
returns-then-not-begins_argument g c =
    rw c.new.ensures (arguing_none c.args.source.now c.args.levels c.args.at (sym c.if-not-begins_argument.ensures.test))

pub returns-in_err-first : goal.returns-in_err-first
returns-in_err-first g c =
    let p = err_from_is_err_and c.from_residual.result c.from_residual.ensures.1 in
    rw (p.1, p.2) (arguing_fails c.args.source.now c.args.levels c.args.at _ (sym c.if-not-begins_argument.ensures.test) c.in_err-first.ensures)

pub returns-in_err-rest : goal.returns-in_err-rest
returns-in_err-rest g c =
    let p = err_from_is_err_and c.from_residual-in_err-rest.result c.from_residual-in_err-rest.ensures.1 in
    rw (p.1, p.2) (arguing_rest_fails c.args.source.now c.args.levels c.args.at _ _ _ (sym c.if-not-begins_argument.ensures.test) c.in_ok-first.ensures c.in_err-rest.ensures)

pub returns : goal.returns
returns g c =
    let step = arguing_read c.args.source.now c.args.levels c.args.at _ _ _ _ (sym c.if-not-begins_argument.ensures.test) c.in_ok-first.ensures c.in_ok-rest.ensures in
    rw (step, arguments_of_arguments) (search rules)
