use Rattle.sw_cmd_run.proofs.Following.{all_answered}
use Rattle.sw_cmd_run.proofs.laws.poll_answers_all.Goals as goal

pub returns : goal.returns
returns c = all_answered
