use Rattle.std.specs.Map.{set_value}
use Rattle.std.proofs.Common.{bytes_eq}
use Rattle.sw_modules.proofs.Noting.{first_none, first_behind}
use Rattle.sw_modules.proofs.loaded.noted_beside.Goals as goal

pub returns-in-None-clause-first : goal.returns-in-None-clause-first
returns-in-None-clause-first c = λ holders held first. first_none holders (set_value (bytes_eq c.args.path.now) c.args.entries.now.entries held)

pub returns-then-place-noted-clause-first : goal.returns-then-place-noted-clause-first
returns-then-place-noted-clause-first c = λ holders held first. first_none holders (set_value (bytes_eq c.args.path.now) c.args.entries.now.entries held)

pub returns-else-place-noted-clause-first : goal.returns-else-place-noted-clause-first
returns-else-place-noted-clause-first c = λ holders held first.
    first_behind holders c.args.entries.now.entries c.args.path.now held c.in-Some.place c.args.noted c.in-Some.ensures.index c.if-place-noted.false first
