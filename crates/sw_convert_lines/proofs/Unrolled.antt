-- What the definitions say of the lines of comments.
use Rattle.std.proofs.Common.{◌≡◌, ℕ, List, [], ◌++◌, append-nil, sym, ◌∙◌, ap}
use Rattle.sw_tree.specs.declared.text.Parts.TheVariants as texts
use Rattle.sw_tree.specs.declared.text.Piece.{Piece}
use Rattle.sw_convert_alike.specs.Comments.{lines_of}
use Rattle.sw_convert_lines.specs.Comments.{comment_lines, comment_lines_by, lines_text}

pub lines_plain : (text : List ℕ) → comment_lines (texts.Plain text) ≡ lines_of text
unfolding comment_lines
lines_plain text = ap comment_lines_by (texts.outs-Plain text)

pub lines_mixed : (pieces : List Piece) → comment_lines (texts.Mixed pieces) ≡ []
unfolding comment_lines
lines_mixed pieces = ap comment_lines_by (texts.outs-Mixed pieces)

pub nothing_put : (xs : List ℕ) (level : ℕ) (pieces : List Piece) → xs ≡ xs ++ lines_text level (comment_lines (texts.Mixed pieces))
nothing_put xs level pieces =
    sym (append-nil xs) ∙ ap (λ (ls : List (List ℕ)). xs ++ lines_text level ls) (sym (lines_mixed pieces))
