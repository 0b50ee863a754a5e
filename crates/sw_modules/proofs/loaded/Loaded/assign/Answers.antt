use Rattle.sw_modules.proofs.Noting.{first_given}
use Rattle.sw_modules.proofs.loaded.Loaded.assign.Goals as goal

pub invariant_of-self : goal.invariant_of-self
invariant_of-self c =
    first_given c.self.inside.holders c.self.inside.entries.entries c.give_value.new.entries.entries c.args.owner.now c.args.name.now c.args.value c.self.inside.noted
    c.give_value.result c.give_value.ensures.ok c.give_value.ensures.err c.self.invariant
