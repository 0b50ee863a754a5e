use Rattle.sw_eval_expressions.specs.Special.{piece_value}
use Rattle.sw_eval_questions.proofs.Steps.{did_value}
use Rattle.sw_tree.specs.declared.text.Piece as C
use Rattle.sw_eval_expressions.proofs.special.piece_value.Goals as goal

pub returns-in-Text : goal.returns-in-Text
unfolding piece_value C.out-Piece denote.Hole.Carrier.out
returns-in-Text g c =
    rw c.in-Text.is (did_value _ c.args.walk.now.state _ _)

pub returns-in-Inserted : goal.returns-in-Inserted
unfolding piece_value C.out-Piece denote.Hole.Carrier.out
returns-in-Inserted g c =
    rw c.in-Inserted.is (did_value _ c.args.walk.now.state _ _)

pub returns-in-Value : goal.returns-in-Value
unfolding piece_value C.out-Piece denote.Hole.Carrier.out
returns-in-Value g c =
    rw c.in-Value.is c.value_behind.ensures
