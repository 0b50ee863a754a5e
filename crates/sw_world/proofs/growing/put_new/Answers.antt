use Rattle.sw_world.proofs.Listed.{listed_new}
use Rattle.sw_world.proofs.growing.put_new.Goals as goal

pub returns-clause-listed : goal.returns-clause-listed
returns-clause-listed c =
    rw (c.put_pair.ensures, c.put_place.ensures, c.as_slice.ensures.value) (listed_new c.args.distinct.now.items c.args.places.now.items (c.args.op, c.args.answer) c.requires.within)
