use Rattle.std.proofs.Common.{◌∙◌, sym}
use Rattle.sw_eval_questions.proofs.Steps.{did_plain, no_memory}
use Rattle.sw_eval_questions.proofs.Choices.{did_yes, did_no}
use Rattle.sw_eval_statements.proofs.imports.import_by.Goals as goal

pub returns-in_err-are_plain : goal.returns-in_err-are_plain
returns-in_err-are_plain g c = no_memory _ c.args.walk.now.state _ _ _ c.from_residual.ensures

pub returns-then-not-are_plain : goal.returns-then-not-are_plain
returns-then-not-are_plain g c =
    did_no _ _ _ (sym c.in_ok-are_plain.ensures ∙ c.if-not-are_plain.true) (did_plain _ c.args.walk.now.state _ _ _ (c.fails.ensures c.args.walk.now.state))

pub returns : goal.returns
returns g c =
    did_yes _ _ _ (sym c.in_ok-are_plain.ensures ∙ c.if-not-are_plain.false) c.plain_import.ensures
