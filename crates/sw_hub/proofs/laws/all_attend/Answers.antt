use Rattle.sw_hub.proofs.Attending.{all_attend}
use Rattle.sw_hub.proofs.laws.all_attend.Goals as goal

pub returns : goal.returns
returns c = all_attend
