use Rattle.std.proofs.Common.{◌≡◌, drop, map}
use Rattle.sw_convert_written.specs.Expressions.{piece_written}
use Rattle.sw_convert_lines.specs.Held.{breaks_pieces}
use Rattle.sw_convert_lines.proofs.held.breaks_pieces.Given as goal

abbrev pub invariant-pieces : goal.invariant-pieces
invariant-pieces l =
    breaks_pieces (map piece_written (drop l.piece-index l.pieces)) ≡ breaks_pieces (map piece_written l.pieces)
