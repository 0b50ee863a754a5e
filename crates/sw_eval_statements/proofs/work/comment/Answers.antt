use Rattle.sw_eval_statements.specs.Statements.{comment}
use Rattle.sw_eval_questions.proofs.Steps.{did_value, did_err, did_then, did_plain}
use Rattle.sw_eval_statements.proofs.work.comment.Goals as goal

pub returns-then-is_function : goal.returns-then-is_function
unfolding comment
returns-then-is_function g c = rw (← c.is_function.ensures, c.if-is_function.true) (did_value _ c.args.walk.now.state _ _)

pub returns-in_err-text : goal.returns-in_err-text
unfolding comment
returns-in_err-text g c =
    rw (← c.is_function.ensures, c.if-is_function.false) (did_err _ c.in_err-text.ensures c.from_residual.ensures)

pub returns-in_err-commented : goal.returns-in_err-commented
unfolding comment
returns-in_err-commented g c =
    rw (← c.is_function.ensures, c.if-is_function.false) (did_then _ c.in_ok-text.ensures (did_err _ (did_plain _ _ _ _ _ c.in_err-commented.ensures) c.from_residual-in_err-commented.ensures))

pub returns : goal.returns
unfolding comment
returns g c =
    rw (← c.is_function.ensures, c.if-is_function.false) (did_then _ c.in_ok-text.ensures (did_then _ (did_plain _ _ _ _ _ c.in_ok-commented.ensures) (did_value _ _ _ _)))
