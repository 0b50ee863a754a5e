use Rattle.std.proofs.Common.{sym, ◌∙◌}
use Rattle.sw_record.proofs.Tails.{given_more}
use Rattle.sw_record.proofs.again.are_confirmed.Goals as goal

pub loop-at-preserved : goal.loop-at-preserved
loop-at-preserved g c = (
  c.if-not-confirms_named.ensures.same ∙ c.loop-at.invariant.0,
  given_more g.W.World.gives c.args.world.now c.args.named.now c.loop-at.at c.index-named-at.result c.loop-at-test.true (sym c.index-named-at.is) c.loop-at.invariant.1
      (λ pair asked. rw c.loop-at.invariant.0 at (c.if-not-confirms_named.ensures.given pair asked)),
)
