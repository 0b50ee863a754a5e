use Rattle.std.proofs.Common.{◌≡◌, ◌++◌, map, reverse, length}
use Rattle.sw_parse_table.specs.Lined.{lined_pieces}
use Rattle.sw_parse_expr_nodes.specs.Views.{insert_of}
use Rattle.sw_parse_expr_nodes.proofs.lined.lined_pieces.Given as goal

abbrev pub invariant-items : goal.invariant-items
invariant-items l =
    lined_pieces l.source l.at l.at l.end (map insert_of l.rest) ++ reverse l.pieces.items
    ≡ lined_pieces l.source l.at l.at l.fn.place (map insert_of l.fn.list)

abbrev pub decreases-items : goal.decreases-items
decreases-items l = length l.rest
