use Rattle.sw_eval_statements.specs.Imports.{inserted_texts}
use Rattle.sw_eval_questions.proofs.Steps.{did_value}
use Rattle.sw_eval_walk.proofs.TextOpens.{out_Mixed}
use Rattle.sw_tree.specs.declared.text.Parts as T
use Rattle.sw_eval_statements.proofs.imports.inserted_texts.Goals as goal

pub returns-in-Plain : goal.returns-in-Plain
unfolding inserted_texts T.out-Parts denote.Hole.Carrier.out
returns-in-Plain g c =
    rw (c.in-Plain.is, c.new.ensures) (did_value _ c.args.walk.now.state _ _)

pub returns-in-Mixed : goal.returns-in-Mixed
unfolding inserted_texts
returns-in-Mixed g c =
    rw (c.in-Mixed.is, out_Mixed) (rw c.as_slice.ensures at c.inserted_pieces.ensures)
