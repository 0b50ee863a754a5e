use Rattle.std.proofs.Common.{refl}
use Rattle.sw_tree.specs.declared.text.Piece as C
use Rattle.sw_eval_raw_text.specs.Special.{fits}
use Rattle.sw_eval_raw_text.proofs.special.fits.Goals as goal

pub returns-in-Text : goal.returns-in-Text
unfolding fits C.out-Piece denote.Hole.Carrier.out
returns-in-Text c = rw c.in-Text.is (rw c.as_str.ensures at c.fits_text.ensures)

pub returns-in-Inserted : goal.returns-in-Inserted
unfolding fits C.out-Piece denote.Hole.Carrier.out
returns-in-Inserted c = rw c.in-Inserted.is refl

pub returns-in-Value : goal.returns-in-Value
unfolding fits C.out-Piece denote.Hole.Carrier.out
returns-in-Value c = rw c.in-Value.is c.fits_value.ensures
