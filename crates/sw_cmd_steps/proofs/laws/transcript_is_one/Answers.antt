use Rattle.sw_cmd_steps.proofs.Following.{transcript_is_one}
use Rattle.sw_cmd_steps.proofs.laws.transcript_is_one.Goals as goal

pub returns : goal.returns
returns c = transcript_is_one
