use Rattle.std.proofs.Common.{map}
use Rattle.sw_parse_table.specs.Parts.{States}
use Rattle.sw_parse_table.specs.Actions.{to_declaration}
use Rattle.sw_parse_statement_blocks.specs.Rows.{opening_parts}
use Rattle.sw_parse_statement_blocks.proofs.Prepended.{made_behind, fails_made}
use Rattle.sw_parse_statement_blocks.proofs.declaration.properties_behind.Goals as goal

pub returns-in_ok-put-in-Ok : goal.returns-in_ok-put-in-Ok
returns-in_ok-put-in-Ok g c =
    made_behind (to_declaration c.args.source.now c.args.at) (map States c.args.list.now.items) (opening_parts c.args.opening) _ _ _ _ _
    (rw c.block_place-place.ensures at c.in-Ok.ensures)
    (rw c.in_ok-statement-in-Ok.ensures.made at c.properties_of.ensures) c.in_ok-put-in-Ok.ensures.more

pub returns-in-Err : goal.returns-in-Err
returns-in-Err g c =
    rw c.given_up.ensures (fails_made (to_declaration c.args.source.now c.args.at) (map States c.args.list.now.items)
    (opening_parts c.args.opening) _ _ (rw c.block_place-place.ensures at c.in-Err.ensures))
