use Rattle.std.proofs.Common.{refl}
use Rattle.sw_tree.specs.declared.text.Piece as C
use Rattle.sw_eval_raw_text.specs.Imports.{is_text}
use Rattle.sw_eval_raw_text.proofs.imports.is_text.Goals as goal

pub returns-in-Text : goal.returns-in-Text
unfolding is_text C.out-Piece denote.Hole.Carrier.out
returns-in-Text c = rw c.in-Text.is refl

pub returns-in-Inserted : goal.returns-in-Inserted
unfolding is_text C.out-Piece denote.Hole.Carrier.out
returns-in-Inserted c = rw c.in-Inserted.is refl

pub returns-in-Value : goal.returns-in-Value
unfolding is_text C.out-Piece denote.Hole.Carrier.out
returns-in-Value c = rw c.in-Value.is refl
