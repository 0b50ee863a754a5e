use Rattle.std.proofs.Common.{◌≤◌, length, arith}
use Rattle.sw_rows_announcer.proofs.Announced.{did_say}
use Rattle.sw_rows_announcer.proofs.turn.say.Goals as goal

pub returns-clause-did : goal.returns-clause-did
returns-clause-did g c end =
    let few : length c.args.pairs.now.items ≤ 1 = grind (arith, c.len.ensures, c.if-len-gt1.false) in
    let grew = rw c.reserve.ensures.items at c.push.ensures in
    did_say g.W.World.gives end c.args.path.now c.args.pairs.now.items _ c.in_ok-op.op c.in_ok-answer.answer _ _ c.in_ok-op.ensures c.requires few grew c.in_ok-answer.ensures.given c.in_ok-answer.ensures.fits
