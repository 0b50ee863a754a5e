use Rattle.sw_eval_walk.specs.Texts.{piece}
use Rattle.sw_eval_questions.proofs.Steps.{did_value, no_memory}
use Rattle.sw_tree.specs.declared.text.Piece as C
use Rattle.sw_eval_walk.proofs.texts.piece.Goals as goal

pub returns-in_err-share-in-Text : goal.returns-in_err-share-in-Text
returns-in_err-share-in-Text g c =
    no_memory _ c.args.walk.now.state _ _ _ c.from_residual.ensures

pub returns-in_ok-share-in-Text : goal.returns-in_ok-share-in-Text
unfolding piece C.out-Piece denote.Hole.Carrier.out
returns-in_ok-share-in-Text g c =
    rw (c.in-Text.is, c.in_ok-share-in-Text.ensures) (did_value _ c.args.walk.now.state _ _)

pub returns-in-Inserted : goal.returns-in-Inserted
unfolding piece C.out-Piece denote.Hole.Carrier.out
returns-in-Inserted g c =
    rw (c.in-Inserted.is) c.spelled_value.ensures

pub returns-in-Value : goal.returns-in-Value
unfolding piece C.out-Piece denote.Hole.Carrier.out
returns-in-Value g c =
    rw (c.in-Value.is) c.plain_spelled.ensures
