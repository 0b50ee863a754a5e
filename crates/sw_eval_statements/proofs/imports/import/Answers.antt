use Rattle.sw_eval_statements.specs.Imports.{import}
use Rattle.sw_eval_questions.proofs.Steps.{did_plain}
use Rattle.sw_eval_statements.proofs.imports.import.Goals as goal

pub returns-then-is_some : goal.returns-then-is_some
unfolding import
returns-then-is_some g c =
    rw (← c.is_some.ensures, c.if-is_some.true) (did_plain _ c.args.walk.now.state _ _ _ (c.fails.ensures c.args.walk.now.state))

pub returns : goal.returns
unfolding import
returns g c = rw (← c.is_some.ensures, c.if-is_some.false) c.sheet_import.ensures
