use Rattle.std.proofs.Common.{refl}
use Rattle.sw_tree.specs.declared.text.Piece as C
use Rattle.sw_eval_raw_text.specs.Special.{function_in}
use Rattle.sw_eval_raw_text.proofs.special.function_in.Goals as goal

pub returns-in-Text : goal.returns-in-Text
unfolding function_in C.out-Piece denote.Hole.Carrier.out
returns-in-Text c = rw c.in-Text.is (rw c.as_str.ensures at c.function_of.ensures)

pub returns-in-Inserted : goal.returns-in-Inserted
unfolding function_in C.out-Piece denote.Hole.Carrier.out
returns-in-Inserted c = rw c.in-Inserted.is refl

pub returns-in-Value : goal.returns-in-Value
unfolding function_in C.out-Piece denote.Hole.Carrier.out
returns-in-Value c = rw c.in-Value.is refl
