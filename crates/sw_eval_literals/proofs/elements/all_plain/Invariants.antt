use Rattle.std.proofs.Common.{◌≡◌, drop}
use Rattle.sw_eval_literals.specs.Elements.{all_plain}
use Rattle.sw_eval_literals.proofs.Parts.{behind}
use Rattle.sw_eval_literals.proofs.elements.all_plain.Given as goal

abbrev pub invariant-values : goal.invariant-values
invariant-values l = all_plain l.values l.span ≡ behind l.all (all_plain (drop l.value-index l.values) l.span)
