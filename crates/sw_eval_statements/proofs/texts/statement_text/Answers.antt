use Rattle.sw_eval_statements.specs.Texts.{sheet_text}
use Rattle.sw_eval_statements.proofs.texts.statement_text.Goals as goal

pub returns : goal.returns
unfolding sheet_text
returns g c = rw c.outside.ensures at c.text.ensures
