use Rattle.std.proofs.Common.{sym, ap, ◌∙◌, slice_get}
use Rattle.sw_modules.specs.Interfaces.{of_kind}
use Rattle.sw_modules.proofs.PassedOn.{one_more, passed_open, open-append}
use Rattle.sw_modules.proofs.interfaces.Passing.pass_forwarded.Goals as goal

pub members-preserved : goal.members-preserved
members-preserved c =
    one_more (passed_open c.args.self.now.prefix.now c.args.self.now.which.now c.args.kind c.args.held.now) (open-append c.args.self.now.prefix.now c.args.self.now.which.now c.args.kind c.args.held.now)
    (of_kind c.args.kind c.args.forwarded.now) c.members.place (c.in-Some.name.now, c.in-Some.origin.now)
    (ap (λ t. slice_get t c.members.place) (sym c.of_kind-table.ensures) ∙ sym c.in-Some.ensures)
    c.args.brought.now c.members.brought c.pass_unhidden.new.brought c.members.invariant c.in_ok-pass_unhidden-in-Some.ensures
