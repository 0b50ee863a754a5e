use Rattle.std.proofs.Common.{◌∙◌, sym}
use Rattle.sw_eval_questions.proofs.Steps.{no_memory}
use Rattle.sw_eval_questions.proofs.Choices.{did_yes, did_no}
use Rattle.sw_eval_statements.proofs.imports.sheet_import.Goals as goal

pub returns-then-is_css : goal.returns-then-is_css
returns-then-is_css g c = did_yes _ _ _ (sym c.is_css.ensures ∙ c.if-is_css.true) c.css_import.ensures

pub returns-in_err-template : goal.returns-in_err-template
returns-in_err-template g c = no_memory _ c.args.walk.now.state _ _ _ c.from_residual.ensures

pub returns-in_err-parts : goal.returns-in_err-parts
returns-in_err-parts g c = no_memory _ c.args.walk.now.state _ _ _ c.from_residual-in_err-parts.ensures

pub returns : goal.returns
returns g c =
    did_no _ _ _ (sym c.is_css.ensures ∙ c.if-is_css.false) (rw (c.as_slice.ensures, c.in_ok-parts.ensures, c.as_str.ensures, c.in_ok-template.ensures) at c.import_by.ensures)
