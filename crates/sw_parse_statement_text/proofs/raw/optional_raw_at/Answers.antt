use Rattle.std.proofs.Common.{sym}
use Rattle.std.proofs.lemmas.Result.{err_from_is_err_and}
use Rattle.sw_parse_statement_text.proofs.Choices.{no_raw, some_raw}
use Rattle.sw_parse_statement_text.proofs.raw.optional_raw_at.Goals as goal

pub returns-then-not-begins_raw : goal.returns-then-not-begins_raw
returns-then-not-begins_raw g c = no_raw c.args.source.now c.args.levels c.args.at (sym c.if-not-begins_raw.ensures.test)

pub returns-in_err-text : goal.returns-in_err-text
returns-in_err-text g c =
    let p = err_from_is_err_and c.from_residual.result c.from_residual.ensures.1 in
    rw (some_raw c.args.source.now c.args.levels c.args.at (sym c.if-not-begins_raw.ensures.test), p.1, p.2) c.in_err-text.ensures

pub returns : goal.returns
returns g c =
    rw (some_raw c.args.source.now c.args.levels c.args.at (sym c.if-not-begins_raw.ensures.test)) c.in_ok-text.ensures
