use Rattle.std.proofs.Common.{sym, arith}
use Rattle.std.proofs.lemmas.Result.{err_from_is_err_and}
use Rattle.sw_parse_css.specs.Seen.{seen}
use Rattle.sw_parse_css.proofs.Blocks.{block_got, block_unclosed, block_fails}
use Rattle.sw_parse_css.proofs.block.block_at.Goals as goal

pub returns-in_err-list : goal.returns-in_err-list
returns-in_err-list g c =
    let p = err_from_is_err_and c.from_residual.result c.from_residual.ensures.1 in
    rw (p.1, p.2) (block_fails (seen c.args.source.now) c.args.within c.args.levels c.args.at _ (omega arith) (sym c.if-not-is_at.ensures.test) c.in_err-list.ensures)

pub returns-then-not-is_at-2 : goal.returns-then-not-is_at-2
returns-then-not-is_at-2 g c =
    rw c.given_up.ensures (block_unclosed (seen c.args.source.now) c.args.within c.args.levels c.args.at _ _ (omega arith) (sym c.if-not-is_at.ensures.test) c.in_ok-list.ensures (sym c.if-not-is_at-2.ensures.test))

pub returns : goal.returns
returns g c =
    block_got (seen c.args.source.now) c.args.within c.args.levels c.args.at _ _ (omega arith) (sym c.if-not-is_at.ensures.test) c.in_ok-list.ensures (sym c.if-not-is_at-2.ensures.test)
