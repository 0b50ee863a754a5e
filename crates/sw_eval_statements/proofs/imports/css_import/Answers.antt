use Rattle.sw_eval_statements.specs.Imports.{css_import}
use Rattle.sw_eval_questions.proofs.Steps.{did_value, did_err, did_then, did_plain}
use Rattle.sw_eval_statements.proofs.imports.css_import.Goals as goal

pub returns-in_err-text : goal.returns-in_err-text
unfolding css_import
returns-in_err-text g c = did_err _ c.in_err-text.ensures c.from_residual.ensures

pub returns-in_err-import_one : goal.returns-in_err-import_one
unfolding css_import
returns-in_err-import_one g c =
    did_then _ c.in_ok-text.ensures (did_err _ (did_plain _ _ _ _ _ c.in_err-import_one.ensures) c.from_residual-in_err-import_one.ensures)

pub returns : goal.returns
unfolding css_import
returns g c =
    did_then _ c.in_ok-text.ensures (did_then _ (did_plain _ _ _ _ _ c.in_ok-import_one.ensures) (did_value _ _ _ _))
