use Rattle.sw_convert_passing.proofs.SignsStand.{signs_stand}
use Rattle.sw_convert_passing.proofs.law.signs_stand_apart.Goals as goal

pub returns : goal.returns
returns c = signs_stand
