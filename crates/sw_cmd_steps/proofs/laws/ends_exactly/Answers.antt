use Rattle.sw_cmd_steps.proofs.Following.{exactly}
use Rattle.sw_cmd_steps.proofs.laws.ends_exactly.Goals as goal

pub returns : goal.returns
returns c = exactly
