use Rattle.std.proofs.Common.{refl}
use Rattle.sw_tree.specs.declared.expr.ExprKind as E
use Rattle.sw_eval_built_in_calls.proofs.built_ins.constant_by.Goals as goal

pub returns-in-Number : goal.returns-in-Number
unfolding E.out-ExprKind denote.Hole.Carrier.out
returns-in-Number c = rw c.in-Number.is c.number_value.ensures

pub returns-in-Constant : goal.returns-in-Constant
unfolding E.out-ExprKind denote.Hole.Carrier.out
returns-in-Constant c = rw (c.in-Constant.is, c.constant_value.ensures) refl

pub returns-in-Word : goal.returns-in-Word
unfolding E.out-ExprKind denote.Hole.Carrier.out
returns-in-Word c = rw c.in-Word.is c.word_by.ensures
