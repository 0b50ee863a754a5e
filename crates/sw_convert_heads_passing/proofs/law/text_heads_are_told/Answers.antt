use Rattle.sw_convert_heads_passing.proofs.TextHeads.{text_heads_are_told}
use Rattle.sw_convert_heads_passing.proofs.law.text_heads_are_told.Goals as goal

pub returns : goal.returns
returns c = text_heads_are_told
