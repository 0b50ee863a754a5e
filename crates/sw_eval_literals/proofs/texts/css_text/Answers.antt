use Rattle.std.proofs.Common.{sym, ◌∙◌, ap, Ok}
use Rattle.sw_values.specs.Texts.{shown}
use Rattle.sw_eval_literals.specs.Texts.{css_text}
use Rattle.sw_eval_literals.proofs.Limits.{css_ok, css_over, css_none}
use Rattle.sw_eval_literals.proofs.texts.css_text.Goals as goal

pub returns-in-Ok : goal.returns-in-Ok
unfolding css_text
returns-in-Ok c =
    css_ok (shown c.args.quotes c.args.value.now) c.args.span.now c.in-Ok.ensures.css (rw c.in-Ok.ensures.text at c.in-Ok.ensures.light) ∙ ap Ok (sym c.in-Ok.ensures.text)

pub returns-in-Err-NotCss : goal.returns-in-Err-NotCss
unfolding css_text
returns-in-Err-NotCss c =
    let e = rw c.in-Err-NotCss.field-0-is at c.in-Err-NotCss.ensures.err in
    rw (css_none (shown c.args.quotes c.args.value.now) c.args.span.now e) c.fails.ensures

pub returns-in-Err-TooLarge : goal.returns-in-Err-TooLarge
unfolding css_text
returns-in-Err-TooLarge c =
    let e = rw c.in-Err-TooLarge.field-0-is at c.in-Err-TooLarge.ensures.err in
    rw (css_over (shown c.args.quotes c.args.value.now) c.args.span.now e.0 e.1) c.fails-in-Err-TooLarge.ensures
