use Rattle.std.proofs.Common.{Err}
use Rattle.std.proofs.lemmas.Result.{err_from_is_err_and}
use Rattle.sw_parse_css.specs.Ends.{end_of}
use Rattle.sw_parse_css.proofs.Whole.{tokens_returned, unclosed_returned, obeys}
use Rattle.sw_parse_css.proofs.sheet.read_css.Goals as goal

pub returns-in_err-tokens-clause-result : goal.returns-in_err-tokens-clause-result
returns-in_err-tokens-clause-result c =
    let p = err_from_is_err_and c.from_residual.result c.from_residual.ensures.1 in
    rw (p.1, p.2) (unclosed_returned c.args.text.now _ c.in_err-tokens.ensures.fault)

pub returns-in_err-tokens-clause-grammar : goal.returns-in_err-tokens-clause-grammar
returns-in_err-tokens-clause-grammar c =
    let p = err_from_is_err_and c.from_residual.result c.from_residual.ensures.1 in
    rw (p.1, p.2) (obeys c.args.text.now (Err (end_of c.in_err-tokens.field-0.0)) (unclosed_returned c.args.text.now _ c.in_err-tokens.ensures.fault))

pub returns-clause-result : goal.returns-clause-result
returns-clause-result c = tokens_returned _ _ _ c.in_ok-tokens.ensures.sheet c.in_ok-tokens.ensures.tokens c.read_tokens.ensures

pub returns-clause-grammar : goal.returns-clause-grammar
returns-clause-grammar c =
    obeys c.args.text.now c.read_tokens.result (tokens_returned _ _ _ c.in_ok-tokens.ensures.sheet c.in_ok-tokens.ensures.tokens c.read_tokens.ensures)
