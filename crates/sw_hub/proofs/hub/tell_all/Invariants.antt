use Rattle.sw_hub.specs.Hubs.{Told, known}
use Rattle.sw_hub.proofs.Telling.{Going}
use Rattle.sw_hub.proofs.hub.tell_all.Given as goal

abbrev pub invariant-seats : goal.invariant-seats
invariant-seats g l =
    Going l.initial.seats l.seats l.seat-index
    (λ old new. Told old.silent l.reply
    (known g.M.Reporter.heard g.M.Reporter.number g.M.Reporter.faults old.number old.silent old.reporter)
    (known g.M.Reporter.heard g.M.Reporter.number g.M.Reporter.faults new.number new.silent new.reporter))
