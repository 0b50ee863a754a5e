use Rattle.sw_convert_texts.proofs.Adjoining.{parts_stick}
use Rattle.sw_convert_texts.proofs.laws.parts_adjoin.Goals as goal

pub returns : goal.returns
returns c = parts_stick
