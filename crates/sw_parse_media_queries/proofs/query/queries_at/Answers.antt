use Rattle.std.proofs.lemmas.Result.{err_from_is_err_and}
use Rattle.sw_parse_media_queries.proofs.Added.{whole_text, whole_stops}
use Rattle.sw_parse_media_queries.proofs.query.queries_at.Goals as goal

pub returns-in_err-place : goal.returns-in_err-place
returns-in_err-place c =
    let p = err_from_is_err_and c.from_residual.result c.from_residual.ensures.1 in rw (p.1, p.2) (whole_stops c.args.source.now c.args.levels c.args.at _ (rw c.new-list.ensures at c.in_err-place.ensures))

pub returns : goal.returns
returns c =
    whole_text c.args.source.now c.args.levels c.args.at _ c.pieces_at.new.list _ (rw c.new-list.ensures at c.in_ok-place.ensures) (rw c.in_ok-text.ensures.made at c.text_of.ensures)
