use Rattle.std.proofs.Common.{sym}
use Rattle.sw_modules.proofs.PassedOn.{next_own}
use Rattle.sw_modules.proofs.interfaces.Passing.pass_owns.Goals as goal

pub members-preserved : goal.members-preserved
members-preserved g c =
    next_own c.args.table.now c.args.self.now.prefix.now c.args.self.now.which.now c.args.kind c.args.path.now c.members.place (c.in-Some.name.now, c.in-Some.field-0-1.now) (sym c.in-Some.ensures)
    c.args.brought.now c.members.brought c.pass_own.new.brought c.members.invariant c.in_ok-pass_own-in-Some.ensures
