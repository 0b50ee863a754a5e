use Rattle.std.proofs.Common.{arith}
use Rattle.std.proofs.lemmas.Result.{err_from_is_err_and}
use Rattle.sw_parse_statement_blocks.proofs.Braces.{block_fails, block_unclosed, block_read}
use Rattle.sw_parse_statement_blocks.proofs.block.block_at.Goals as goal

pub returns-in_err-list : goal.returns-in_err-list
returns-in_err-list g c =
    let p = err_from_is_err_and c.from_residual.result c.from_residual.ensures.1 in
    rw (p.1, p.2) (block_fails c.args.source.now c.args.levels c.args.at (omega arith) c.if-not-is_at.ensures.test _ c.in_err-list.ensures)

pub returns-then-not-is_at-2 : goal.returns-then-not-is_at-2
returns-then-not-is_at-2 g c =
    rw c.given_up.ensures (block_unclosed c.args.source.now c.args.levels c.args.at (omega arith) c.if-not-is_at.ensures.test _ _ c.in_ok-list.ensures c.if-not-is_at-2.ensures.test)

pub returns : goal.returns
returns g c =
    block_read c.args.source.now c.args.levels c.args.at (omega arith) c.if-not-is_at.ensures.test _ _ c.in_ok-list.ensures c.if-not-is_at-2.ensures.test
