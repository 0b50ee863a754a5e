use Rattle.std.proofs.Common.{sym}
use Rattle.std.proofs.lemmas.Result.{err_from_is_err_and}
use Rattle.sw_parse_statement_heads.proofs.CallableChoices.{no_params, some_params}
use Rattle.sw_parse_statement_heads.proofs.param.optional_params_at.Goals as goal

pub returns-then-not-is_at : goal.returns-then-not-is_at
returns-then-not-is_at c = no_params c.args.source.now c.args.levels c.args.at (sym c.if-not-is_at.ensures.test)

pub returns-in_err-read : goal.returns-in_err-read
returns-in_err-read c =
    let p = err_from_is_err_and c.from_residual.result c.from_residual.ensures.1 in
    rw (some_params c.args.source.now c.args.levels c.args.at (sym c.if-not-is_at.ensures.test), p.1, p.2) c.in_err-read.ensures

pub returns : goal.returns
returns c =
    rw (some_params c.args.source.now c.args.levels c.args.at (sym c.if-not-is_at.ensures.test)) c.in_ok-read.ensures
