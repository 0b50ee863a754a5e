use Rattle.std.proofs.Common.{◌≡◌, ◌++◌, map, drop}
use Rattle.sw_fn_text.specs.Pieces.{piece_value}
use Rattle.sw_fn_text.proofs.pieces.piece_values.Given as goal

abbrev pub invariant-pieces : goal.invariant-pieces
invariant-pieces l = l.values ++ map (piece_value l.quoted) (drop l.at l.texts) ≡ map (piece_value l.quoted) l.texts
