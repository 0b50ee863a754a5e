use Rattle.std.proofs.Common.{[], true, sym, ◌∙◌}
use Rattle.sw_values.specs.Texts.{shown, shown_as}
use Rattle.sw_ops.proofs.Heavy.{right_fault}
use Rattle.sw_ops.proofs.joining.headed.Goals as goal

pub returns-in-Err : goal.returns-in-Err
returns-in-Err c = right_fault _ _ [] (shown_as c.args.sign.now) (shown true c.args.a.now) (sym c.is_css.ensures ∙ c.if-not-is_css.false) c.in-Err.ensures
