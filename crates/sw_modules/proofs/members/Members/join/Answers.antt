use Rattle.std.proofs.Common.{ap, ◌∙◌}
use Rattle.sw_modules.specs.Uses.{first_members}
use Rattle.sw_modules.proofs.PassedOn.{part_back}
use Rattle.sw_modules.proofs.members.Members.join.Goals as goal

pub returns-in-Err-clause-err : goal.returns-in-Err-clause-err
returns-in-Err-clause-err c =
    part_back c.args.self.now c.args.entries.now c.add_each.new.self c.truncate.new.self c.in-Err.ensures.err
    (c.truncate.ensures ∙ ap (λ n. first_members n c.add_each.new.self) c.counts-counts.ensures)
