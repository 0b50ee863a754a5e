use Rattle.sw_fn_text.proofs.Found.{cut-split, cut-none, utf8-split}
use Rattle.sw_fn_text.proofs.pieces.cut.Goals as goal

pub returns-in-Some-clause-parts : goal.returns-in-Some-clause-parts
returns-in-Some-clause-parts c = cut-split _ _ _ _ c.in-Some.ensures.cases

pub returns-in-Some-clause-utf8 : goal.returns-in-Some-clause-utf8
returns-in-Some-clause-utf8 c = utf8-split _ _ _ _ c.utf8.text c.in-Some.ensures.cases

pub returns-in-None : goal.returns-in-None
returns-in-None c = record { parts = cut-none _ _ c.in-None.ensures.cases; utf8 = tt }
