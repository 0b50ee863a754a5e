use Rattle.sw_tree.specs.declared.expr.ExprKind as E
use Rattle.sw_eval_raw_text.proofs.special.compared_by.Goals as goal

pub returns-in-Special : goal.returns-in-Special
unfolding E.out-ExprKind denote.Hole.Carrier.out
returns-in-Special c = rw c.in-Special.is c.number_in.ensures
