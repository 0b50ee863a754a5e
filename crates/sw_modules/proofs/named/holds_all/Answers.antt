use Rattle.sw_modules.proofs.Confirming.{public_more, public_all}
use Rattle.sw_modules.proofs.named.holds_all.Goals as goal

pub loop-place-preserved : goal.loop-place-preserved
loop-place-preserved c =
    public_more c.args.variables.now c.args.values.now c.loop-place.place (rw c.len-place-end.ensures.count at c.loop-place-test.true) c.loop-place.invariant c.in-Some.ensures

pub returns : goal.returns
returns c = public_all c.args.variables.now c.args.values.now c.loop-place.place (rw c.len-place-end.ensures.count at c.loop-place-test.false) c.loop-place.invariant
