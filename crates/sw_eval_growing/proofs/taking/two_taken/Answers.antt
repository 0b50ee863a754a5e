use Rattle.sw_eval_growing.proofs.Ends.{two_one, two_both, two_more}
use Rattle.sw_eval_growing.proofs.taking.two_taken.Goals as goal

pub returns-in-None-pop : goal.returns-in-None-pop
returns-in-None-pop c = two_one _ _ _ c.in-Some.ensures c.in-None-pop.ensures.0

pub returns-in-None-pop-2 : goal.returns-in-None-pop-2
returns-in-None-pop-2 c = two_both _ _ _ _ _ c.in-Some.ensures c.in-Some-pop.ensures c.in-None-pop-2.ensures.0

pub returns : goal.returns
returns c = two_more _ _ _ _ _ _ _ c.in-Some.ensures c.in-Some-pop.ensures c.in-Some-pop-2.ensures
