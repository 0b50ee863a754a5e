use Rattle.std.proofs.Common.{refl}
use Rattle.sw_tree.specs.declared.text.Piece as C
use Rattle.sw_eval_raw_text.specs.Special.{behind_piece}
use Rattle.sw_eval_raw_text.proofs.special.behind_piece.Goals as goal

pub returns-in-Text : goal.returns-in-Text
unfolding behind_piece C.out-Piece denote.Hole.Carrier.out
returns-in-Text c = rw c.in-Text.is refl

pub returns-in-Inserted : goal.returns-in-Inserted
unfolding behind_piece C.out-Piece denote.Hole.Carrier.out
returns-in-Inserted c = rw c.in-Inserted.is refl

pub returns-in-Value : goal.returns-in-Value
unfolding behind_piece C.out-Piece denote.Hole.Carrier.out
returns-in-Value c = rw c.in-Value.is c.behind_value.ensures
