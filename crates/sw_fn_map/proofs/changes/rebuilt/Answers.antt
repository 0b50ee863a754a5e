use Rattle.sw_fn_map.proofs.Steps.{rebuilt-step, rebuilt-err}
use Rattle.sw_fn_map.proofs.changes.rebuilt.Goals as goal

pub steps-preserved : goal.steps-preserved
steps-preserved c =
    rebuilt-step c.steps.steps c.pop.new.self c.in-Some.step c.steps.value c.in-Ok.made _ c.in-Some.ensures c.in-Ok.ensures c.steps.invariant

pub returns-in-Err : goal.returns-in-Err
returns-in-Err c =
    rebuilt-err c.steps.steps c.pop.new.self c.in-Some.step c.steps.value c.in-Err.fault _ c.in-Some.ensures c.in-Err.ensures c.steps.invariant
