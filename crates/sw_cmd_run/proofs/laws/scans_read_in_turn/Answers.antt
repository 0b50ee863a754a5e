use Rattle.sw_cmd_run.proofs.Following.{in_turn}
use Rattle.sw_cmd_run.proofs.laws.scans_read_in_turn.Goals as goal

pub returns : goal.returns
returns c = in_turn
