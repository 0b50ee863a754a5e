use Rattle.std.proofs.Common.{arith}
use Rattle.sw_fn_map.proofs.Deeper.{deep-merged-ok, deep-merged-err}
use Rattle.sw_fn_map.proofs.deep.+deep.Goals as goal

pub deep_merged-returns-in-Ok : goal.deep_merged-returns-in-Ok
deep_merged-returns-in-Ok t c =
    deep-merged-ok c.args.levels c.args.pairs.now c.as_slice-2.result.now c.args.other.now c.in-Ok.all _ (omega arith) c.as_slice-2.ensures c.in-Ok.ensures c.with_new.ensures

pub deep_merged-returns-in-Err : goal.deep_merged-returns-in-Err
deep_merged-returns-in-Err t c =
    deep-merged-err c.args.levels c.args.pairs.now c.as_slice-2.result.now c.args.other.now c.in-Err.fault (omega arith) c.as_slice-2.ensures c.in-Err.ensures
