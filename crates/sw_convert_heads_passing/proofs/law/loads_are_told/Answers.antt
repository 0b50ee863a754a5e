use Rattle.sw_convert_heads_passing.proofs.LoadHeads.{loads_are_told}
use Rattle.sw_convert_heads_passing.proofs.law.loads_are_told.Goals as goal

pub returns : goal.returns
returns c = loads_are_told
