use Rattle.sw_hub.specs.Hubs.{Told, known}
use Rattle.sw_hub.proofs.Telling.{each_back}
use Rattle.sw_hub.proofs.hub.Hub.tell.Goals as goal

pub returns-clause-told : goal.returns-clause-told
returns-clause-told g c =
    each_back (λ seat. known g.M.Reporter.heard g.M.Reporter.number g.M.Reporter.faults seat.number seat.silent seat.reporter) (λ old new. Told old.silent c.args.reply.now old new)
    c.args.self.now.seats.items c.deref_mut.result.now c.tell_all.new.seats c.args.self.now.seats.len c.deref_mut.ensures.value c.deref_mut.ensures.len c.tell_all.ensures
