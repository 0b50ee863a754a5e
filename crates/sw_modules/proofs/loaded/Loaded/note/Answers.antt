use Rattle.sw_modules.proofs.Noting.{first_more}
use Rattle.sw_modules.proofs.loaded.Loaded.note.Goals as goal

pub invariant_of-self : goal.invariant_of-self
invariant_of-self c =
    first_more c.self.inside.holders c.note_from.new.holders c.self.inside.entries.entries c.self.inside.noted c.note_from.ensures.more c.self.invariant
