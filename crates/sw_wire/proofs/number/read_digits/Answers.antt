use Rattle.std.proofs.Common.{sym, ◌∙◌}
use Rattle.sw_wire.proofs.Digits.{number_stops, number_goes_on, number_is}
use Rattle.sw_wire.proofs.number.read_digits.Goals as goal

pub returns-then-not-can_follow : goal.returns-then-not-can_follow
returns-then-not-can_follow c =
    sym (c.loop-digit.invariant ∙ number_stops c.args.most c.loop-digit.number c.args.digits.now c.loop-digit.digit-index c.loop-digit-test.true (sym c.can_follow.ensures.value ∙ c.if-not-can_follow.true))

pub loop-digit-preserved : goal.loop-digit-preserved
loop-digit-preserved c =
    rw c.from.ensures (c.loop-digit.invariant ∙ number_goes_on c.args.most c.loop-digit.number c.args.digits.now c.loop-digit.digit-index c.loop-digit-test.true (sym c.can_follow.ensures.value ∙ c.if-not-can_follow.false))

pub returns : goal.returns
returns c = sym (c.loop-digit.invariant ∙ number_is c.args.most c.loop-digit.number c.args.digits.now c.loop-digit.digit-index c.loop-digit-test.false)
