use Rattle.sw_cmd_session.proofs.Following.{exactly}
use Rattle.sw_cmd_session.proofs.laws.ends_exactly.Goals as goal

pub returns : goal.returns
returns c = exactly
