use Rattle.std.proofs.Common.{sym}
use Rattle.sw_eval_questions.proofs.Steps.{did_value, did_err, did_then, did_plain, no_memory_by}
use Rattle.sw_eval_top_level.proofs.Walks.{other_preset, other_does}
use Rattle.sw_eval_top_level.proofs.top.other.Goals as goal

pub returns-in-Some : goal.returns-in-Some
returns-in-Some g c = rw (← c.in-Some.ensures) (did_plain _ _ _ _ _ c.declare_callable.ensures)

pub returns-in_err-ready : goal.returns-in_err-ready
returns-in_err-ready g c = no_memory_by _ _ _ _ _ _ _ _ c.in_err-ready.ensures c.from_residual.ensures

pub returns-then-ready : goal.returns-then-ready
returns-then-ready g c =
    rw (other_preset (g.B.Below.values c.args.below) (g.B.Below.statements c.args.below) c.args.config.now c.args.statement.now c.args.walk.now.state c.preset.new.state (sym c.in_default.ensures) (rw c.if-ready.true at c.in_ok-ready.ensures)) (did_value _ _ _ _)

pub returns-in_err-_value : goal.returns-in_err-_value
returns-in_err-_value g c =
    rw (other_does (g.B.Below.values c.args.below) (g.B.Below.statements c.args.below) c.args.config.now c.args.statement.now c.args.walk.now.state c.preset.new.state (sym c.in_default.ensures) (rw c.if-ready.false at c.in_ok-ready.ensures)) (did_err _ c.in_err-_value.ensures c.from_residual-in_err-_value.ensures)

pub returns : goal.returns
returns g c =
    rw (other_does (g.B.Below.values c.args.below) (g.B.Below.statements c.args.below) c.args.config.now c.args.statement.now c.args.walk.now.state c.preset.new.state (sym c.in_default.ensures) (rw c.if-ready.false at c.in_ok-ready.ensures)) (did_then _ c.in_ok-_value.ensures (did_value _ _ _ _))
