use Rattle.std.proofs.Common.{◌≡◌, drop}
use Rattle.sw_eval_literals.specs.Texts.{all_blank}
use Rattle.sw_eval_literals.proofs.texts.all_blank.Given as goal

abbrev pub invariant-items : goal.invariant-items
invariant-items l = all_blank l.items ≡ all_blank (drop l.item-index l.items)
