use Rattle.std.proofs.Common.{sym, ap, ◌∙◌, List}
use Rattle.std.proofs.lemmas.Result.{err_from_is_err_and}
use Rattle.sw_parse_grammar.specs.Grammar.{Got}
use Rattle.sw_parse_table.specs.Parts.{Part}
use Rattle.sw_parse_expr_operands.proofs.Calls.{called_fails, called_word, called_arguments_fail, called_call}
use Rattle.sw_parse_expr_operands.proofs.call.called_at.Goals as goal

pub returns-in_err-name : goal.returns-in_err-name
returns-in_err-name g c =
    let p = err_from_is_err_and c.from_residual.result c.from_residual.ensures.1 in
    rw (p.1, p.2) (called_fails c.args.source.now c.args.levels c.args.at _ c.in_err-name.ensures)

pub returns-then-not-is_at : goal.returns-then-not-is_at
returns-then-not-is_at g c =
    called_word c.args.source.now c.args.levels c.args.at _ _ c.in_ok-name.ensures (sym c.if-not-is_at.ensures.test)
    ∙ ap (λ (x : List Part). Got x c.in_ok-name.place) c.word_value.ensures

pub returns-in_err-arguments : goal.returns-in_err-arguments
returns-in_err-arguments g c =
    let p = err_from_is_err_and c.from_residual-in_err-arguments.result c.from_residual-in_err-arguments.ensures.1 in
    rw (p.1, p.2)
    (called_arguments_fail c.args.source.now c.args.levels c.args.at _ _ _ c.in_ok-name.ensures (sym c.if-not-is_at.ensures.test) c.in_err-arguments.ensures)

pub returns : goal.returns
returns g c =
    called_call c.args.source.now c.args.levels c.args.at _ _ _ _ c.in_ok-name.ensures (sym c.if-not-is_at.ensures.test) c.in_ok-arguments.ensures
    ∙ ap (λ (x : List Part). Got x c.in_ok-arguments.place) c.in_ok-value.ensures.made
