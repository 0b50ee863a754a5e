use Rattle.std.proofs.Common.{◌∙◌}
use Rattle.sw_record.proofs.Tails.{at_more, at_all}
use Rattle.sw_record.proofs.again.are_confirmed_at.Goals as goal

pub loop-at-preserved : goal.loop-at-preserved
loop-at-preserved g c = (
  c.if-not-is_confirmed_at.ensures.same ∙ c.loop-at.invariant.0,
  at_more g.W.World.gives c.args.world.now c.args.seen.now c.args.places.now c.loop-at.at _ c.loop-at-test.true c.loop-at.invariant.1
      (λ pair here. rw c.loop-at.invariant.0 at (c.if-not-is_confirmed_at.ensures.given pair here)),
)

pub returns-clause-given : goal.returns-clause-given
returns-clause-given g c = at_all g.W.World.gives c.args.world.now c.args.seen.now c.args.places.now c.loop-at.at c.loop-at-test.false c.loop-at.invariant.1
