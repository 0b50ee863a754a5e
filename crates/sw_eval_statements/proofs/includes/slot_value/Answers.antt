use Rattle.sw_eval_questions.proofs.Steps.{did_value, no_memory}
use Rattle.sw_eval_statements.proofs.includes.slot_value.Goals as goal

pub returns-in_err-share-in-Filled : goal.returns-in_err-share-in-Filled
returns-in_err-share-in-Filled g c =
    no_memory _ c.args.walk.now.state _ _ _ c.from_residual.ensures

pub returns-in_ok-share-in-Filled : goal.returns-in_ok-share-in-Filled
returns-in_ok-share-in-Filled g c =
    rw (c.in-Filled.is, c.in_ok-share-in-Filled.ensures) (did_value _ c.args.walk.now.state _ _)

pub returns-in-Default : goal.returns-in-Default
returns-in-Default g c =
    rw c.in-Default.is (rw c.default_at.ensures at c.default_value.ensures)
