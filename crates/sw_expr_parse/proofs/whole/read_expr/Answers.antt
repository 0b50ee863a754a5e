use Rattle.std.proofs.Common.{refl}
use Rattle.sw_expr_parse.proofs.Endings.{expr_read}
use Rattle.sw_expr_parse.proofs.whole.read_expr.Goals as goal

pub returns : goal.returns
returns c =
    expr_read _ _ c.args.form c.args.at c.args.tokens.now c.read_source.result
    (record {
      tokens = refl;
      lexemes = rw (c.as_slice.ensures, c.in_ok-lexemes.ensures.lexemes, c.mode_of.ensures) refl;
    })
    c.read_source.ensures
