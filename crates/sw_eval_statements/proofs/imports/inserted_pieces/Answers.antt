use Rattle.sw_eval_statements.specs.Imports.{inserted_pieces}
use Rattle.sw_eval_questions.proofs.Steps.{did_value, did_err, did_then, no_memory}
use Rattle.sw_eval_statements.proofs.imports.inserted_pieces.Goals as goal

pub returns-in_err-texts : goal.returns-in_err-texts
unfolding inserted_pieces
returns-in_err-texts g c =
    did_err _ (rw c.outside.ensures at c.in_err-texts.ensures) c.from_residual.ensures

pub returns-in_err-values : goal.returns-in_err-values
unfolding inserted_pieces
returns-in_err-values g c =
    did_then _ (rw c.outside.ensures at c.in_ok-texts.ensures) (no_memory _ _ _ _ _ c.from_residual-in_err-values.ensures)

pub returns : goal.returns
unfolding inserted_pieces
returns g c =
    did_then _ (rw c.outside.ensures at c.in_ok-texts.ensures) (rw (c.in_ok-values.ensures, c.as_slice.ensures) (did_value _ _ _ _))
