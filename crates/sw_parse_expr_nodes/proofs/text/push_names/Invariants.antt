use Rattle.std.proofs.Common.{◌≡◌, ◌++◌, reverse, length}
use Rattle.sw_parse_table.specs.Sources.{pieces_in}
use Rattle.sw_parse_expr_nodes.proofs.text.push_names.Given as goal

abbrev pub invariant-texts : goal.invariant-texts
invariant-texts l =
    pieces_in l.rest ++ reverse l.pieces.items ≡ pieces_in l.fn.list ++ reverse l.fn.pieces.items

abbrev pub decreases-texts : goal.decreases-texts
decreases-texts l = length l.rest
