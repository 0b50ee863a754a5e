use Rattle.sw_rows_announcer.proofs.Announced.{no_refusal, refusal_there}
use Rattle.sw_rows_announcer.proofs.parts.first_refusal.Goals as goal

pub returns-in-None : goal.returns-in-None
returns-in-None c = no_refusal c.args.pairs.now.items c.in-None.ensures

pub returns-in-Some : goal.returns-in-Some
returns-in-Some c = rw (← refusal_there c.args.pairs.now.items c.in-Some.pair.now c.in-Some.ensures) c.refusal.ensures
