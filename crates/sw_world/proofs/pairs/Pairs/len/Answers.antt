use Rattle.std.proofs.Common.{length, sym, ap, ◌∙◌}
use Rattle.sw_world.proofs.Listed.{listed_length}
use Rattle.sw_world.proofs.pairs.Pairs.len.Goals as goal

pub returns : goal.returns
returns c = c.len.ensures ∙ sym (listed_length c.self.inside.distinct c.self.inside.places c.self.invariant) ∙ ap length c.self.view_is
