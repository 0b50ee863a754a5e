use Rattle.std.proofs.Common.{refl}
use Rattle.sw_text_scan.specs.Brackets.{stop_at}
use Rattle.sw_text_scan.proofs.StopLemmas.{stops_by_step}
use Rattle.sw_text_scan.proofs.laws.stops_at_the_first.Goals as goal

pub returns : goal.returns
unfolding stop_at
returns c = record { first = λ to bs i. refl; step = stops_by_step }
