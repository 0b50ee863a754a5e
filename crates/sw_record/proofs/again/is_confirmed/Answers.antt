use Rattle.sw_record.proofs.Tails.{asked_tail, on_true}
use Rattle.sw_record.proofs.again.is_confirmed.Goals as goal

pub returns-then-are_confirmed-clause-asked : goal.returns-then-are_confirmed-clause-asked
returns-then-are_confirmed-clause-asked g c =
    let tail = c.args.tail.now in
    on_true c.are_confirmed_at.result
    (λ given. asked_tail g.W.World.gives c.args.world.now c.args.seen.now tail.from tail.to tail.named tail.alone c.requires (rw c.as_slice.ensures at c.if-are_confirmed.ensures.given)
    (rw (c.as_slice-then-are_confirmed.ensures, c.if-are_confirmed.ensures.same) at given))
    c.are_confirmed_at.ensures.given
