use Rattle.std.proofs.Common.{◌≡◌, drop, map}
use Rattle.sw_convert_written.specs.declared.rules.Place.TheVariants as places
use Rattle.sw_convert_written.specs.Expressions.{piece_written}
use Rattle.sw_convert_written.specs.Rules.{behind_pieces}
use Rattle.sw_convert_written.proofs.rules.behind_pieces.Given as goal

abbrev pub invariant-pieces : goal.invariant-pieces
invariant-pieces l =
    behind_pieces l.dashed l.here (map piece_written (drop l.piece-index l.pieces))
    ≡ behind_pieces l.dashed places.Word (map piece_written l.pieces)
