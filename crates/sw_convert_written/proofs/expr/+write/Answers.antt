use Rattle.std.proofs.Common.{arith}
use Rattle.std.proofs.lemmas.Grind.{common_steps}
use Rattle.sw_convert_written.proofs.Joins.{appends}
use Rattle.sw_convert_written.proofs.Unrolled.{quoted_is, prefixed_is, chain_is, list_is, paren_is, map_is, inserted_is}
use Rattle.sw_convert_written.proofs.expr.+write.Goals as goal

pub put_expr-returns-in_ok-put_parts-in-Quoted : goal.put_expr-returns-in_ok-put_parts-in-Quoted
put_expr-returns-in_ok-put_parts-in-Quoted t c =
    first_of (grind (arith, appends, quoted_is), grind (arith, common_steps, appends, quoted_is))

pub put_expr-returns-in_ok-put_signs-in-Prefixed : goal.put_expr-returns-in_ok-put_signs-in-Prefixed
put_expr-returns-in_ok-put_signs-in-Prefixed t c =
    first_of (grind (arith, appends, prefixed_is), grind (arith, common_steps, appends, prefixed_is))

pub put_expr-returns-in_ok-put_expr-in-Chain : goal.put_expr-returns-in_ok-put_expr-in-Chain
put_expr-returns-in_ok-put_expr-in-Chain t c =
    first_of (grind (arith, appends, chain_is), grind (arith, common_steps, appends, chain_is))

pub put_expr-returns-in_ok-put_items-in-List : goal.put_expr-returns-in_ok-put_items-in-List
put_expr-returns-in_ok-put_items-in-List t c =
    first_of (grind (arith, appends, list_is), grind (arith, common_steps, appends, list_is))

pub put_expr-returns-in_ok-put_expr-in-Paren : goal.put_expr-returns-in_ok-put_expr-in-Paren
put_expr-returns-in_ok-put_expr-in-Paren t c =
    first_of (grind (arith, appends, paren_is), grind (arith, common_steps, appends, paren_is))

pub put_expr-returns-in_ok-put_pairs-in-Map : goal.put_expr-returns-in_ok-put_pairs-in-Map
put_expr-returns-in_ok-put_pairs-in-Map t c =
    first_of (grind (arith, appends, map_is), grind (arith, common_steps, appends, map_is))

pub put_piece-returns-in_ok-put_expr-in-Inserted : goal.put_piece-returns-in_ok-put_expr-in-Inserted
put_piece-returns-in_ok-put_expr-in-Inserted t c =
    first_of (grind (arith, appends, inserted_is), grind (arith, common_steps, appends, inserted_is))
