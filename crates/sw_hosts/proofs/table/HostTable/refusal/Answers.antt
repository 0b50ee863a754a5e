use Rattle.std.proofs.Common.{rules, arith}
use Rattle.sw_text.specs.Names.{dashed}
use Rattle.sw_hosts.specs.Seats.{functions}
use Rattle.sw_hosts.proofs.Rows.{found, is_none, is_taken, is_free}
use Rattle.sw_hosts.proofs.table.HostTable.refusal.Goals as goal

pub returns-then-place_of-len : goal.returns-then-place_of-len
returns-then-place_of-len g c =
    is_taken (functions g.F.HostFn.kind g.F.HostFn.state c.args.self.now.seats.items) c.args.name.now (search rules)
    (found _ (dashed c.args.name.now) c.args.self.now.seats.items c.place_of.result (search rules) (search rules))

pub returns : goal.returns
returns g c =
    is_free (functions g.F.HostFn.kind g.F.HostFn.state c.args.self.now.seats.items) c.args.name.now (search rules)
    (is_none _ (dashed c.args.name.now) c.args.self.now.seats.items c.place_of.result (search rules) (search rules))
