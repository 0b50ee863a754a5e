use Rattle.std.proofs.Common.{◌≡◌, ℕ, suc, ◌+◌, List, subst, sym, arith}
use Rattle.sw_step.specs.Joint.{UnderWay}
use Rattle.sw_step.specs.Under.{NoneFrom}
use Rattle.sw_step.proofs.Numbers.{none_given}
use Rattle.sw_step.proofs.steps.Steps.start.Goals as goal

pub invariant_of-self : goal.invariant_of-self
invariant_of-self g c =
    let more : suc c.self.inside.given ≡ c.self.inside.given + 1 = omega arith in
    subst (λ (n : ℕ). NoneFrom n c.add_compile.new.under_way.entries) more
    (subst (λ (es : List (ℕ × UnderWay)). NoneFrom (suc c.self.inside.given) es) (sym c.in-Ok-add_compile.ensures.ok) (none_given c.self.inside.given c.self.inside.under_way.entries c.in-Ok.compile c.self.invariant))
