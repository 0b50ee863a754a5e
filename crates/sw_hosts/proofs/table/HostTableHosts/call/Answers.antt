use Rattle.std.proofs.Common.{rules, ap}
use Rattle.sw_text.specs.Names.{dashed}
use Rattle.sw_hosts.specs.Seats.{functions, seated}
use Rattle.sw_hosts.proofs.Rows.{none, there, next, answered, changed, unanswered, unchanged}
use Rattle.sw_hosts.proofs.Vecs.{same_item}
use Rattle.sw_hosts.proofs.Whole.{at_error}
use Rattle.sw_hosts.proofs.table.HostTableHosts.call.Goals as goal

pub returns-then-at-len-clause-answered : goal.returns-then-at-len-clause-answered
returns-then-at-len-clause-answered g c =
    unanswered (functions g.F.HostFn.kind g.F.HostFn.state c.args.self.now.seats.items) c.args.name.now c.args.args.now
    (none _ (dashed c.args.name.now) c.args.self.now.seats.items c.place_of-at.result (search rules) (search rules))

pub returns-then-at-len-clause-changed : goal.returns-then-at-len-clause-changed
returns-then-at-len-clause-changed g c =
    unchanged (functions g.F.HostFn.kind g.F.HostFn.state c.args.self.now.seats.items) c.args.name.now c.args.args.now
    (none _ (dashed c.args.name.now) c.args.self.now.seats.items c.place_of-at.result (search rules) (search rules))

pub returns-in_err-value-clause-err : goal.returns-in_err-value-clause-err
returns-in_err-value-clause-err g c =
    at_error c.from_residual.result
    (ap (λ v. record { seats = v })
    (same_item c.args.self.now.seats c.place_of-at.result c.index_mut.result.now c.call_seat.new.seat (search rules) (search rules)))

pub returns-clause-answered : goal.returns-clause-answered
returns-clause-answered g c =
    answered (functions g.F.HostFn.kind g.F.HostFn.state c.args.self.now.seats.items) c.args.name.now c.args.args.now _ c.in_ok-value.value
    (there _ (dashed c.args.name.now) c.args.self.now.seats.items c.place_of-at.result c.index_mut.result.now (search rules) (search rules) (search rules))
    (search rules)

pub returns-clause-changed : goal.returns-clause-changed
returns-clause-changed g c =
    changed (functions g.F.HostFn.kind g.F.HostFn.state c.args.self.now.seats.items) _ c.args.name.now c.args.args.now _
    (there _ (dashed c.args.name.now) c.args.self.now.seats.items c.place_of-at.result c.index_mut.result.now (search rules) (search rules) (search rules))
    (next _ (dashed c.args.name.now) c.args.self.now.seats.items c.place_of-at.result c.index_mut.result.now c.call_seat.new.seat _ (search rules) (search rules) (search rules) (search rules) (search rules) (search rules))
