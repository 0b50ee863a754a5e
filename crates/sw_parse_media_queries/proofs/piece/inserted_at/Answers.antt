use Rattle.std.proofs.Common.{refl}
use Rattle.std.proofs.lemmas.Result.{err_from_is_err_and}
use Rattle.sw_parse_grammar.specs.Grammar.{anywhere}
use Rattle.sw_parse_table.specs.Values.{inserted_piece}
use Rattle.sw_parse_expr_lists.specs.Inserts.{insertion}
use Rattle.sw_parse_media_queries.proofs.Added.{built, unbuilt}
use Rattle.sw_parse_media_queries.proofs.piece.inserted_at.Goals as goal

pub returns-in_err-value : goal.returns-in_err-value
returns-in_err-value c =
    let p = err_from_is_err_and c.from_residual.result c.from_residual.ensures.1 in rw (p.1, p.2) (unbuilt c.args.source.now c.args.levels (anywhere inserted_piece) (insertion c.args.source.now c.args.opening) c.args.at c.args.list.now _ c.in_err-value.ensures)

pub returns : goal.returns
returns c =
    built c.args.source.now c.args.levels inserted_piece (insertion c.args.source.now c.args.opening) c.args.at _ _ c.args.list.now c.add.new.list _ c.in_ok-value.ensures refl c.in_ok-add.ensures.more
