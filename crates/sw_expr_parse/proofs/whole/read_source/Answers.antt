use Rattle.sw_expr_parse.proofs.Endings.{ended}
use Rattle.sw_expr_parse.proofs.whole.read_source.Goals as goal

pub returns-in-Ok : goal.returns-in-Ok
returns-in-Ok c = (_, c.in-Ok.ensures, c.token_at.ensures)

pub returns-in-Err : goal.returns-in-Err
returns-in-Err c =
    ended c.args.source.now c.args.levels c.args.form _ c.end_of.result c.in-Err.ensures c.end_of.ensures
