use Rattle.sw_cmd_run.proofs.Following.{exactly}
use Rattle.sw_cmd_run.proofs.laws.poll_ends_exactly.Goals as goal

pub returns : goal.returns
returns c = exactly
