use Rattle.std.proofs.Common.{◌≡◌, ◌∙◌, arith}
use Rattle.sw_eval.specs.Means.{does_to, enter_to}
use Rattle.sw_eval_questions.proofs.Steps.{did_plain}
use Rattle.sw_eval_literals.specs.declared.quotients.Parens.TheVariants as P
use Rattle.sw_eval.proofs.Depth.{one_level, one_level_enter, one_level_does}
use Rattle.sw_eval_expressions.proofs.GivenUp.{gave_same}
use Rattle.sw_eval.proofs.GivenUp.{went_fault, set_does, set_err, set_done}
use Rattle.sw_eval.proofs.knot.+knot.Goals as goal

pub value_at-returns-then-depth-eq0 : goal.value_at-returns-then-depth-eq0
value_at-returns-then-depth-eq0 g t c =
    went_fault g.W.World.gives c.args.place c.args.depth c.args.e.now c.args.walk.now c.args.world.now _ (omega arith) (c.fails.ensures c.args.walk.now.state)

pub value_at-returns-in-Within : goal.value_at-returns-in-Within
value_at-returns-in-Within g t c =
    rw (c.in-Within.is, one_level c.args.depth c.in-Within.parens c.args.e.now c.args.walk.now.state (omega arith)) c.value_one.ensures

pub value_at-returns-in-Assigned : goal.value_at-returns-in-Assigned
value_at-returns-in-Assigned g t c =
    rw c.in-Assigned.is (gave_same _ _ (one_level c.args.depth P.Outside c.args.e.now c.args.walk.now.state (omega arith)) (rw c.outside.ensures at c.value_given_up.ensures))

pub enter_at-returns-then-depth-eq0 : goal.enter_at-returns-then-depth-eq0
unfolding enter_to
enter_at-returns-then-depth-eq0 g t c =
    let none : c.args.depth ≡ 0 = omega arith in rw none (did_plain _ c.args.walk.now.state _ _ _ (c.fails.ensures c.args.walk.now.state))

pub enter_at-returns : goal.enter_at-returns
enter_at-returns g t c =
    rw (one_level_enter c.args.depth c.args.span.now c.args.body.start.now c.args.body.params.now c.args.body.block.now c.args.walk.now.state (omega arith)) c.run_body.ensures

pub set_at-returns-in_err-value : goal.set_at-returns-in_err-value
set_at-returns-in_err-value g t c =
    set_err c.args.depth c.args.one.now c.requires.default c.requires.global c.in_err-value.ensures c.from_residual.ensures

pub set_at-returns : goal.set_at-returns
set_at-returns g t c =
    set_done c.args.depth c.args.one.now c.requires.default c.requires.global c.in_ok-value.ensures c.assigned.ensures.state c.assigned.ensures.asked

pub does_at-returns-then-depth-eq0 : goal.does_at-returns-then-depth-eq0
unfolding does_to
does_at-returns-then-depth-eq0 g t c =
    let none : c.args.depth ≡ 0 = omega arith in rw (none, ← c.place_of.ensures) (did_plain _ c.args.walk.now.state _ _ _ (c.fails.ensures c.args.walk.now.state))

pub does_at-returns-in-Some : goal.does_at-returns-in-Some
does_at-returns-in-Some g t c =
    rw (one_level_does c.args.depth c.args.statement.now c.args.walk.now.state (omega arith) ∙ set_does _ _ _ _ _ _ c.in-Some.ensures.0) c.set_at.ensures

pub does_at-returns : goal.does_at-returns
does_at-returns g t c =
    rw (one_level_does c.args.depth c.args.statement.now c.args.walk.now.state (omega arith)) c.does_placed.ensures
