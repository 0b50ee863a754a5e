use Rattle.std.proofs.Common.{rules, sym}
use Rattle.sw_text.specs.Names.{dashed}
use Rattle.sw_hosts.proofs.Rows.{none, handed, taken, without_none}
use Rattle.sw_hosts.proofs.table.HostTable.detach.Goals as goal

pub returns-then-at-len-clause-host : goal.returns-then-at-len-clause-host
returns-then-at-len-clause-host g c = sym (none _ (dashed c.args.name.now) c.args.self.now.seats.items c.place_of-at.result (search rules) (search rules))

pub returns-then-at-len-clause-rest : goal.returns-then-at-len-clause-rest
returns-then-at-len-clause-rest g c = without_none _ (dashed c.args.name.now) c.args.self.now.seats.items (search rules)

pub returns-clause-host : goal.returns-clause-host
returns-clause-host g c = handed _ (dashed c.args.name.now) c.args.self.now.seats.items c.place_of-at.result c.remove-seat.result (search rules) (search rules) (search rules)

pub returns-clause-rest : goal.returns-clause-rest
returns-clause-rest g c = taken _ (dashed c.args.name.now) c.args.self.now.seats.items c.remove-seat.new.self.items c.place_of-at.result (search rules) (search rules)
