use Rattle.sw_tree.specs.declared.text.Piece as C
use Rattle.sw_eval_raw_text.specs.Imports.{piece_template}
use Rattle.sw_eval_raw_text.proofs.imports.piece_template.Goals as goal

pub returns-in-Text : goal.returns-in-Text
unfolding piece_template C.out-Piece denote.Hole.Carrier.out
returns-in-Text c = rw c.in-Text.is c.share.ensures

pub returns-in-Inserted : goal.returns-in-Inserted
unfolding piece_template C.out-Piece denote.Hole.Carrier.out
returns-in-Inserted c = rw c.in-Inserted.is c.new.ensures

pub returns-in-Value : goal.returns-in-Value
unfolding piece_template C.out-Piece denote.Hole.Carrier.out
returns-in-Value c = rw c.in-Value.is c.new-in-Value.ensures
