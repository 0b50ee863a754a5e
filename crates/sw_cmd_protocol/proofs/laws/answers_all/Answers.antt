use Rattle.sw_cmd_protocol.proofs.Whole.{all_answered}
use Rattle.sw_cmd_protocol.proofs.laws.answers_all.Goals as goal

pub returns : goal.returns
returns g c = λ grows most stop bytes before now left ran ran_now held held_now s e. all_answered g.P.Protocol.rules grows most bytes ran ran_now held held_now before now left stop s e
