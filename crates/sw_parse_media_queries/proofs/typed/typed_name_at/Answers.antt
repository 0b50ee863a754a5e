use Rattle.std.proofs.Common.{sym}
use Rattle.std.proofs.lemmas.Result.{err_from_is_err_and}
use Rattle.sw_parse_terminals.specs.declared.terminal.Terminal.TheVariants as T
use Rattle.sw_parse_media_queries.specs.Adding.{token_piece, insert_piece}
use Rattle.sw_parse_media_queries.proofs.Added.{after, stops}
use Rattle.sw_parse_media_queries.proofs.Choices.{name_word, name_minus}
use Rattle.sw_parse_media_queries.proofs.typed.typed_name_at.Goals as goal

pub returns-then-is_at : goal.returns-then-is_at
returns-then-is_at c =
    rw (name_word c.args.source.now c.args.levels c.args.at (sym c.if-is_at.ensures.test)) c.token_at.ensures

pub returns-in_err-place : goal.returns-in_err-place
returns-in_err-place c =
    let p = err_from_is_err_and c.from_residual.result c.from_residual.ensures.1 in rw (p.1, p.2) (rw (name_minus c.args.source.now c.args.levels c.args.at (sym c.if-is_at.ensures.test)) (stops c.args.source.now c.args.levels (token_piece c.args.source.now T.WordMinus) (insert_piece c.args.source.now T.WordInsert) c.args.at c.args.list.now _ c.in_err-place.ensures))

pub returns : goal.returns
returns c =
    rw (name_minus c.args.source.now c.args.levels c.args.at (sym c.if-is_at.ensures.test), after c.args.source.now c.args.levels (token_piece c.args.source.now T.WordMinus) (insert_piece c.args.source.now T.WordInsert) c.args.at _ c.args.list.now _ c.in_ok-place.ensures) c.inserted_at.ensures
