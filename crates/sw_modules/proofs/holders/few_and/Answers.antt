use Rattle.std.proofs.Common.{bytes_eq, ap, ◌∙◌}
use Rattle.std.specs.List.{list_any}
use Rattle.sw_modules.proofs.Noting.{pushed_has, pushed_more}
use Rattle.sw_modules.proofs.holders.few_and.Goals as goal

pub returns-clause-has : goal.returns-clause-has
returns-clause-has c = ap (list_any (bytes_eq c.args.path.now)) c.in_ok-all.ensures ∙ pushed_has c.args.paths.now c.args.path.now

pub returns-clause-more : goal.returns-clause-more
returns-clause-more c = λ p has. ap (list_any (bytes_eq p)) c.in_ok-all.ensures ∙ pushed_more c.args.paths.now c.args.path.now p has
