use Rattle.sw_eval_statements.specs.Statements.{does_placed}
use Rattle.sw_eval_questions.proofs.Steps.{did_plain}
use Rattle.sw_eval_statements.proofs.work.does_placed.Goals as goal

pub returns-then-misplaced : goal.returns-then-misplaced
unfolding does_placed
returns-then-misplaced g c =
    rw (← c.misplaced.ensures, c.if-misplaced.true, ← c.place_of.ensures) (did_plain _ c.args.walk.now.state _ _ _ (c.fails.ensures c.args.walk.now.state))

pub returns : goal.returns
unfolding does_placed
returns g c = rw (← c.misplaced.ensures, c.if-misplaced.false) c.does_one.ensures
