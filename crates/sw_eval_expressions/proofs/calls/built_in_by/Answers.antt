use Rattle.std.proofs.Common.{◌∙◌, sym}
use Rattle.sw_eval_questions.proofs.Choices.{did_yes, did_no}
use Rattle.sw_eval_expressions.proofs.IfCalls.{no_if}
use Rattle.sw_eval_expressions.proofs.calls.built_in_by.Goals as goal

pub returns-in_default : goal.returns-in_default
returns-in_default g c =
    rw (← no_if (g.B.Below.values c.args.level.below) (g.B.Below.bodies c.args.level.below) c.args.level.parens c.args.function c.args.one.arguments.now c.args.one.span.now c.args.walk.now.state c.in_default.not-If) c.built_in_call-in_default.ensures

pub returns-then-has_spread : goal.returns-then-has_spread
returns-then-has_spread g c =
    rw c.in-If.is (did_yes _ _ _ (sym c.has_spread.ensures ∙ c.if-has_spread.true) (rw c.in-If.is at c.built_in_call.ensures))

pub returns-else-has_spread : goal.returns-else-has_spread
returns-else-has_spread g c =
    rw c.in-If.is (did_no _ _ _ (sym c.has_spread.ensures ∙ c.if-has_spread.false) c.if_called.ensures)
