use Rattle.sw_builtins.proofs.Short.{inspected-ok, inspected-err}
use Rattle.sw_builtins.proofs.telling.inspected.Goals as goal

pub returns-in-Ok : goal.returns-in-Ok
returns-in-Ok c = inspected-ok c.in-Ok.text c.args.value.now c.string.result c.in-Ok.ensures c.string.ensures

pub returns-in-Err : goal.returns-in-Err
returns-in-Err c = inspected-err c.in-Err.fault c.args.value.now c.in-Err.ensures
