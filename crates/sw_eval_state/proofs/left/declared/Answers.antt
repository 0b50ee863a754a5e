use Rattle.std.proofs.Common.{sym, ◌∙◌, arith}
use Rattle.sw_eval_state.proofs.Declared.{declared_next, declared_end}
use Rattle.sw_eval_state.proofs.left.declared.Goals as goal

pub statements-preserved : goal.statements-preserved
statements-preserved c =
    rw c.in_ok-add_callable.ensures (c.statements.invariant ∙ declared_next c.statements.all c.args.statements.now c.statements.statement-index c.statement-item.result c.statements-test.true c.statement-item.is)

pub returns : goal.returns
returns c = sym (c.statements.invariant ∙ declared_end c.statements.all c.args.statements.now c.statements.statement-index (omega arith))
