use Rattle.std.proofs.Common.{length, take, ap, ◌∙◌, arith}
use Rattle.sw_world.proofs.Listed.{listed_length, listed_take}
use Rattle.sw_world.proofs.pairs.Pairs.grown.Goals as goal

pub first_places-requires : goal.first_places-requires
first_places-requires c =
    omega (arith, c.requires, ap length c.self.view_is, listed_length c.self.inside.distinct c.self.inside.places c.self.invariant, ap length c.as_slice-2.ensures)

pub returns : goal.returns
returns c =
    rw (c.of.ensures, c.into_vec-distinct.ensures, c.in_ok-share_pairs.ensures, c.as_slice.ensures, c.in_ok-places.ensures, c.as_slice-2.ensures) (listed_take c.self.inside.distinct c.self.inside.places c.args.first c.self.invariant ∙ ap (take c.args.first) c.self.view_is)
