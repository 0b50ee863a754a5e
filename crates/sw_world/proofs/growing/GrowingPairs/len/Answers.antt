use Rattle.std.proofs.Common.{length, sym, ap, ◌∙◌}
use Rattle.sw_world.specs.Pairs.{Growing}
use Rattle.sw_world.proofs.Listed.{listed_length}
use Rattle.sw_world.proofs.growing.GrowingPairs.len.Goals as goal

pub returns : goal.returns
returns c = ap length c.as_slice.ensures.value ∙ sym (listed_length c.self.inside.distinct.items c.self.inside.places.items c.self.invariant) ∙ ap (λ (g : Growing). length g.items) c.self.view_is
