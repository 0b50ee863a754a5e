use Rattle.sw_fn_list.proofs.Rows.{rows-step}
use Rattle.sw_fn_list.proofs.zipping.rows.Goals as goal

pub rows-preserved : goal.rows-preserved
rows-preserved c =
    rw c.in_ok-push.ensures.ok
    (rows-step c.args.columns.now c.rows.at c.args.count c.rows.all _ _ c.rows-test.true c.in_ok-row.ensures c.rows.invariant)
