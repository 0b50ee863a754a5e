use Rattle.sw_hub.specs.Hubs.{Told, known}
use Rattle.sw_hub.proofs.Telling.{going_start, going_on, going_done, each_map}
use Rattle.sw_hub.proofs.hub.tell_all.Goals as goal

pub seats-init : goal.seats-init
seats-init g c = going_start c.args.seats.now _

pub seats-preserved : goal.seats-preserved
seats-preserved g c =
    going_on c.args.seats.now c.seats.seats c.seats.seat-index _ c.seat-item.result c.hear.new.self c.seats-test.true c.seats.invariant c.hear.ensures

pub returns : goal.returns
returns g c =
    each_map (λ seat. known g.M.Reporter.heard g.M.Reporter.number g.M.Reporter.faults seat.number seat.silent seat.reporter) (λ old new. Told old.silent c.args.reply.now old new)
    c.args.seats.now c.seats.seats (going_done c.args.seats.now c.seats.seats c.seats.seat-index _ c.seats-test.false c.seats.invariant)
