-- Texts that are alike as they stand are alike in one line, and comments by their lines.
use Rattle.std.proofs.Common.{◌≡◌, List, [], ◌∷◌, sym, subst}
use Rattle.sw_tree.specs.declared.expr.ExprKind.TheOpen.{Piece-F}
use Rattle.sw_tree.specs.declared.text.Parts.{Parts}
use Rattle.sw_tree.specs.declared.text.Parts.TheVariants as texts
use Rattle.sw_tree.specs.declared.text.Piece.{Piece, out-Piece}
use Rattle.sw_tree.specs.declared.text.Piece.TheVariants as pieces
use Rattle.sw_convert_alike.specs.Comments.{lined, lined_by}
use Rattle.sw_convert_alike.specs.Expressions.{LikeParts, LikePieces, plain, mixed, no_pieces, text, inserted, value, empty_left, empty_right}
use Rattle.sw_convert_alike.specs.RawText.{Open, Nothing, OpenPiece, open_behind, behind_insert, piece_in_line, behind_piece, pieces_in_line, pieces_by, one_line}
use Rattle.sw_convert_alike.proofs.Reflexive.{parts_self, pieces_self}

-- pieces in one line, of which the first one is open
abbrev opened : Open → OpenPiece → List Piece → List Piece
opened within piece rest = piece_in_line within piece ∷ pieces_in_line (behind_piece within piece) rest

-- by what the first ones are
by_firsts : (within : Open) (x y : Piece) (xs ys : List Piece) (a b : OpenPiece) → out-Piece x ≡ a → out-Piece y ≡ b
    → LikePieces (opened within a xs) (opened within b ys) → LikePieces (pieces_in_line within (x ∷ xs)) (pieces_in_line within (y ∷ ys))
by_firsts within x y xs ys a b x_is y_is l =
    let left = subst (λ o. LikePieces (opened within o xs) (opened within b ys)) (sym x_is) l in
    subst (λ o. LikePieces (opened within (out-Piece x) xs) (opened within o ys)) (sym y_is) left

in_line_too : (within : Open) {xs ys : List Piece} → LikePieces xs ys → LikePieces (pieces_in_line within xs) (pieces_in_line within ys)
in_line_too within no_pieces = no_pieces
in_line_too within (text {text = bytes} {xs} {ys} ls) =
    by_firsts within (pieces.Text bytes) (pieces.Text bytes) xs ys (Piece-F.Text bytes) (Piece-F.Text bytes) (pieces.outs-Text bytes) (pieces.outs-Text bytes)
    (text (in_line_too (open_behind within bytes) ls))
in_line_too within (inserted {a} {b} {xs} {ys} l ls) =
    by_firsts within (pieces.Inserted a) (pieces.Inserted b) xs ys (Piece-F.Inserted a) (Piece-F.Inserted b) (pieces.outs-Inserted a) (pieces.outs-Inserted b)
    (inserted l (in_line_too (behind_insert within) ls))
in_line_too within (empty_left {xs} {ys} ls) =
    subst (λ o. LikePieces (opened within o xs) (pieces_in_line within ys)) (sym (pieces.outs-Text []))
    (empty_left (in_line_too within ls))
in_line_too within (empty_right {xs} {ys} ls) =
    subst (λ o. LikePieces (pieces_in_line within xs) (opened within o ys)) (sym (pieces.outs-Text []))
    (empty_right (in_line_too within ls))
in_line_too within (value {a} {b} {xs} {ys} l ls) =
    by_firsts within (pieces.Value a) (pieces.Value b) xs ys (Piece-F.Value a) (Piece-F.Value b) (pieces.outs-Value a) (pieces.outs-Value b)
    (value l (in_line_too (behind_insert within) ls))

pub raw_as_it_stands : {a b : Parts} → LikeParts a b → LikePieces (one_line a) (one_line b)
unfolding one_line
raw_as_it_stands (plain {text = bytes}) = pieces_self (one_line (texts.Plain bytes))
raw_as_it_stands (mixed {xs} {ys} ls) =
    let left = subst (λ o. LikePieces (pieces_in_line Nothing (pieces_by o)) (pieces_in_line Nothing ys)) (sym (texts.outs-Mixed xs)) (in_line_too Nothing ls) in
    subst (λ o. LikePieces (one_line (texts.Mixed xs)) (pieces_in_line Nothing (pieces_by o))) (sym (texts.outs-Mixed ys)) left

pub comment_as_it_stands : {a b : Parts} → LikeParts a b → LikeParts (lined a) (lined b)
unfolding lined
comment_as_it_stands (plain {text = bytes}) = parts_self (lined (texts.Plain bytes))
comment_as_it_stands (mixed {xs} {ys} ls) =
    let left = subst (λ o. LikeParts (lined_by o) (texts.Mixed ys)) (sym (texts.outs-Mixed xs)) (mixed ls) in
    subst (λ o. LikeParts (lined (texts.Mixed xs)) (lined_by o)) (sym (texts.outs-Mixed ys)) left
