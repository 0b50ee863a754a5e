use Rattle.sw_eval_questions.proofs.Steps.{did_value, no_memory}
use Rattle.sw_eval_statements.proofs.Contents.{content_some, content_none}
use Rattle.sw_eval_statements.proofs.includes.content.Goals as goal

pub returns-in_err-here : goal.returns-in_err-here
returns-in_err-here g c =
    no_memory _ c.args.walk.now.state _ _ _ c.from_residual.ensures

pub returns-in-Some : goal.returns-in-Some
returns-in-Some g c =
    rw (content_some (g.B.Below.values c.args.below) (g.B.Below.bodies c.args.below) c.args.statement.now c.in-Some.block c.args.walk.now.state (rw c.in_ok-here.ensures at c.in-Some.is)) (rw (c.get.ensures, c.as_slice-arguments.ensures) at c.content_run.ensures)

pub returns : goal.returns
returns g c =
    rw (content_none (g.B.Below.values c.args.below) (g.B.Below.bodies c.args.below) c.args.statement.now c.args.walk.now.state (rw c.in_ok-here.ensures at c.in-None.is)) (did_value _ c.args.walk.now.state _ _)
