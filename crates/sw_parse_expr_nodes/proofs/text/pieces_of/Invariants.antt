use Rattle.std.proofs.Common.{◌≡◌, ◌++◌, map, reverse, length}
use Rattle.sw_parse_table.specs.Sources.{IsCut, pieces_from}
use Rattle.sw_parse_expr_nodes.specs.Views.{insert_of}
use Rattle.sw_parse_expr_nodes.proofs.text.pieces_of.Given as goal

abbrev pub invariant-items : goal.invariant-items
invariant-items l = record {
  pieces : pieces_from l.source l.left (map insert_of l.rest) ++ reverse l.pieces.items ≡ pieces_from l.source l.fn.stretch (map insert_of l.fn.list);
  cut : IsCut l.source l.left;
}

abbrev pub decreases-items : goal.decreases-items
decreases-items l = length l.rest
