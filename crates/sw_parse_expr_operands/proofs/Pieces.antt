-- Pieces that were read in a row, before what isn't kept.
use Rattle.std.proofs.Common.{◌≡◌, List, [], ◌∷◌, ◌++◌, map, refl, ap}
use Rattle.sw_tree.specs.declared.text.Piece.{Piece}
use Rattle.sw_parse_table.specs.Parts.{Pieces, pieces_of}

pub pieces_before : (xs : List Piece) → pieces_of (map Pieces xs ++ []) ≡ xs
pieces_before [] = refl
pieces_before (x ∷ xs) = ap (λ (y : List Piece). x ∷ y) (pieces_before xs)
