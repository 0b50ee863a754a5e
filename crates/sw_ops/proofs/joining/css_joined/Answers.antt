use Rattle.std.proofs.Common.{true}
use Rattle.sw_values.specs.Texts.{shown}
use Rattle.sw_ops.proofs.Heavy.{left_fault, right_fault}
use Rattle.sw_ops.proofs.joining.css_joined.Goals as goal

pub returns-in-Err : goal.returns-in-Err
returns-in-Err c = left_fault _ _ _ (shown true c.args.a.now) (shown true c.args.b.now) (rw (← c.is_css.ensures, ← c.is_css-2.ensures, ← c.both.ensures) c.if-not-both.false) c.in-Err.ensures

pub returns-in-Err-css_text : goal.returns-in-Err-css_text
returns-in-Err-css_text c = right_fault _ _ _ (shown true c.args.a.now) (shown true c.args.b.now) (rw (← c.is_css.ensures, ← c.is_css-2.ensures, ← c.both.ensures) c.if-not-both.false) c.in-Err-css_text.ensures
