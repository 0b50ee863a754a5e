use Rattle.std.proofs.Common.{refl}
use Rattle.sw_tree.specs.declared.text.Piece as C
use Rattle.sw_eval_raw_text.specs.Special.{piece_text}
use Rattle.sw_eval_calls.proofs.Answering.{without_memory}
use Rattle.sw_eval_raw_text.proofs.special.piece_text.Goals as goal

pub returns-in_err-share-in-Text : goal.returns-in_err-share-in-Text
returns-in_err-share-in-Text c = without_memory _ _ c.from_residual.ensures

pub returns-in_ok-share-in-Text : goal.returns-in_ok-share-in-Text
unfolding piece_text C.out-Piece denote.Hole.Carrier.out
returns-in_ok-share-in-Text c = rw (c.in-Text.is, c.in_ok-share-in-Text.ensures) refl

pub returns-in-Inserted : goal.returns-in-Inserted
unfolding piece_text C.out-Piece denote.Hole.Carrier.out
returns-in-Inserted c = rw c.in-Inserted.is c.value_text.ensures

pub returns-in-Value : goal.returns-in-Value
unfolding piece_text C.out-Piece denote.Hole.Carrier.out
returns-in-Value c = rw c.in-Value.is c.value_text-in-Value.ensures
