use Rattle.std.proofs.Common.{◌≡◌, ◌++◌, drop, map}
use Rattle.sw_convert_written.specs.Expressions.{piece_written}
use Rattle.sw_convert_lines.specs.Opens.{open_of}
use Rattle.sw_convert_lines.specs.RawTexts.{pieces_in}
use Rattle.sw_convert_lines.proofs.texts.put_pieces_in.Given as goal

abbrev pub invariant-pieces : goal.invariant-pieces
invariant-pieces l =
    l.out.items ++ pieces_in (open_of l.here) (map piece_written (drop l.i l.pieces))
    ≡ l.initial.out.items ++ pieces_in (open_of l.initial.here) (map piece_written l.pieces)
