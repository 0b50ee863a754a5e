use Rattle.sw_cmd_protocol.proofs.Whole.{exactly}
use Rattle.sw_cmd_protocol.proofs.laws.ends_exactly.Goals as goal

pub returns : goal.returns
returns g c = λ grows most stop bytes left written written_now ran ran_now held held_now s. exactly g.P.Protocol.rules grows most bytes ran ran_now held held_now stop left written written_now s
