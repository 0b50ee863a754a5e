use Rattle.std.proofs.Common.{sym}
use Rattle.sw_media.specs.Reading.{feature_at, typed_condition, conditions_in}
use Rattle.sw_media.proofs.Loops.{handed_on, typed_fails}
use Rattle.sw_media.proofs.reader.typed_condition.Goals as goal

pub returns-in_err-first : goal.returns-in_err-first
returns-in_err-first c =
    let bs = c.args.text.now in
    let deeper = conditions_in bs c.args.levels in
    handed_on c.in_err-first.field-0.0 c.from_residual.result (feature_at deeper bs c.args.at) (typed_condition deeper bs c.args.at)
    c.from_residual.ensures.1 c.in_err-first.ensures (λ e. typed_fails deeper bs c.args.at (sym c.if-is_at.ensures) e)
