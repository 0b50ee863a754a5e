use Rattle.sw_cmd_steps.proofs.Numbers.{few}
use Rattle.sw_cmd_steps.proofs.laws.numbers_are_few.Goals as goal

pub returns : goal.returns
returns c = few
