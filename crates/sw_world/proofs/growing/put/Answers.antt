use Rattle.std.proofs.Common.{List, slice_get, sym, ap, subst, ◌∙◌}
use Rattle.sw_world.specs.Body.{Pair}
use Rattle.sw_world.specs.Pairs.{AreIn}
use Rattle.sw_world.proofs.growing.put.Goals as goal

pub returns-in-Some-clause-within : goal.returns-in-Some-clause-within
returns-in-Some-clause-within c =
    let same = c.deref-in-Some.ensures.value in
    let here = ap (λ (l : List Pair). slice_get l c.in-Some.place) (same ∙ sym c.deref.ensures.value) ∙ c.in-Some.ensures in
    subst (λ (l : List Pair). AreIn l c.put_again.new.places.items) same (c.put_again.ensures.within (c.args.op, c.args.answer) here)
