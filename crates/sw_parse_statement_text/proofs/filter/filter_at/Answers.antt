use Rattle.std.proofs.Common.{sym}
use Rattle.std.proofs.lemmas.Result.{err_from_is_err_and}
use Rattle.sw_parse_statement_text.proofs.Choices.{no_filter, some_filter}
use Rattle.sw_parse_statement_text.proofs.filter.filter_at.Goals as goal

pub returns-then-not-is_filter : goal.returns-then-not-is_filter
returns-then-not-is_filter c = no_filter c.args.source.now c.args.levels c.args.at (sym c.if-not-is_filter.ensures.test)

pub returns-in_err-passed : goal.returns-in_err-passed
returns-in_err-passed c =
    let p = err_from_is_err_and c.from_residual.result c.from_residual.ensures.1 in
    rw (some_filter c.args.source.now c.args.levels c.args.at (sym c.if-not-is_filter.ensures.test), p.1, p.2) c.in_err-passed.ensures

pub returns : goal.returns
returns c =
    rw (some_filter c.args.source.now c.args.levels c.args.at (sym c.if-not-is_filter.ensures.test)) c.in_ok-passed.ensures
