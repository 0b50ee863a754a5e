use Rattle.sw_convert_passing.proofs.Heads.{heads_are_told}
use Rattle.sw_convert_passing.proofs.law.heads_are_told.Goals as goal

pub returns : goal.returns
returns c = heads_are_told
