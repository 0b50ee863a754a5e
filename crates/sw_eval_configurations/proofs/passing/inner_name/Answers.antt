use Rattle.sw_eval_configurations.proofs.Prefixes.{inner_some, inner_none}
use Rattle.sw_eval_configurations.proofs.passing.inner_name.Goals as goal

pub returns-in_ok-new-in-Some : goal.returns-in_ok-new-in-Some
returns-in_ok-new-in-Some c =
    rw (c.in_ok-new-in-Some.ensures, ← c.as_str-2.ensures, ← c.as_str-3.ensures) (inner_some c.as_str-3.result.now c.as_str-2.result.now c.in-Some.rest.now c.in-Some.ensures.cases)

pub returns-in-None : goal.returns-in-None
returns-in-None c =
    rw (← c.as_str-2.ensures, ← c.as_str-3.ensures) (inner_none c.as_str-3.result.now c.as_str-2.result.now c.in-None.ensures.cases)
