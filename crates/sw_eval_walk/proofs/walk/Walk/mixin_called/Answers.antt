use Rattle.sw_eval_walk.proofs.Mixins.{called_plain, called_member}
use Rattle.sw_eval_walk.proofs.walk.Walk.mixin_called.Goals as goal

pub returns-in-None : goal.returns-in-None
returns-in-None g c =
    rw (called_plain c.args.mixin.now c.args.span.now c.args.self.now.state c.in-None.is) c.plain_mixin.ensures

pub returns-in-Some : goal.returns-in-Some
returns-in-Some g c =
    rw (called_member c.args.mixin.now c.in-Some.space c.args.span.now c.args.self.now.state c.in-Some.is) c.member_mixin.ensures
