use Rattle.sw_eval_statements.specs.Imports.{plain_import}
use Rattle.sw_eval_questions.proofs.Steps.{did_value, did_err, did_then, did_plain, no_memory}
use Rattle.sw_eval_statements.proofs.imports.plain_import.Goals as goal

pub returns-in_err-values : goal.returns-in_err-values
unfolding plain_import
returns-in_err-values g c =
    did_err _ c.in_err-values.ensures c.from_residual.ensures

pub returns-in_err-texts : goal.returns-in_err-texts
unfolding plain_import
returns-in_err-texts g c =
    did_then _ c.in_ok-values.ensures (no_memory _ _ _ _ _ c.from_residual-in_err-texts.ensures)

pub returns-in_err-import_all : goal.returns-in_err-import_all
unfolding plain_import
returns-in_err-import_all g c =
    did_then _ c.in_ok-values.ensures (did_err _ (did_plain _ _ _ _ _ (rw (c.as_slice-2.ensures, c.in_ok-texts.ensures, c.as_slice.ensures) at c.in_err-import_all.ensures)) c.from_residual-in_err-import_all.ensures)

pub returns : goal.returns
unfolding plain_import
returns g c =
    did_then _ c.in_ok-values.ensures (did_then _ (did_plain _ _ _ _ _ (rw (c.as_slice-2.ensures, c.in_ok-texts.ensures, c.as_slice.ensures) at c.in_ok-import_all.ensures)) (did_value _ _ _ _))
