use Rattle.sw_cmd_steps.proofs.Following.{all_answered}
use Rattle.sw_cmd_steps.proofs.laws.answers_all.Goals as goal

pub returns : goal.returns
returns c = all_answered
