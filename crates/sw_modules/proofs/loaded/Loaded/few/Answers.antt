use Rattle.std.proofs.Common.{◌≤◌, length, subst, arith}
use Rattle.sw_modules.specs.Noted.{IsFew}
use Rattle.sw_modules.proofs.Few.{few_held}
use Rattle.sw_modules.proofs.loaded.Loaded.few.Goals as goal

pub returns : goal.returns
returns c =
    let all : length c.self.inside.entries.entries ≤ c.self.inside.noted = omega (arith, c.if-self-len.false, c.len.ensures.len) in
    subst (λ l. IsFew l c.args.name.now c.args.paths.now c.in_ok-few.few) c.self.view_is
    (few_held c.self.inside.holders c.self.inside.entries.entries c.self.inside.noted all c.self.invariant
    c.args.name.now c.args.paths.now c.in_ok-few.few _ c.get.ensures c.in_ok-few.ensures)
