use Rattle.std.proofs.Common.{◌∙◌}
use Rattle.sw_eval_literals.proofs.Parts.{next_part}
use Rattle.sw_eval_literals.proofs.elements.filled.Goals as goal

pub parts-preserved : goal.parts-preserved
parts-preserved c =
    rw c.in_ok-push.ensures.ok
    (c.parts.invariant ∙ next_part c.parts.parts c.in_ok-part_at.field-0 c.args.count c.parts.at c.args.values.now c.parts-test.true c.in_ok-part_at.ensures)
