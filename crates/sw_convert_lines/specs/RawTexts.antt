-- Raw text as it is written in a line: each run of white space outside strings is one space, and an empty comment stands
-- between two texts where one was dropped.
use Rattle.std.specs.Prelude.{ℕ, Bool, true, false, ◌&&◌, if◌then◌else◌, List, [], ◌∷◌, ◌++◌, codes, Option, Some, None}
use Rattle.sw_tree.specs.declared.text.Text.{Text}
use Rattle.sw_convert_alike.specs.RawText.{Open, Nothing, in_line, open_behind, behind_insert}
use Rattle.sw_convert_written.specs.Escapes.{apart}
use Rattle.sw_convert_written.specs.Pieces.{Written, Said, Inserted, Value}
use Rattle.sw_convert_written.specs.Expressions.{parts_written}
use Rattle.sw_convert_written.specs.Rules.{is_cut, has_more}

-- a piece, where this is open before it
abbrev pub piece_in : Open → Written → List ℕ
piece_in within (Said text) = in_line within text
piece_in within (Inserted value) = codes "#{" ++ (value ++ codes "}")
piece_in within (Value value) = value

-- what is open behind it
abbrev pub behind_piece : Open → Written → Open
behind_piece within (Said text) = open_behind within text
behind_piece within _ = behind_insert within

abbrev pub is_said : Written → Bool
is_said (Said text) = true
is_said _ = false

-- between a piece and those behind it
abbrev pub seam_before : Bool → List Written → List ℕ
seam_before said [] = []
seam_before said (next ∷ pieces) = if said && is_said next then apart else []

-- pieces behind one another
abbrev pub pieces_in : Open → List Written → List ℕ
pieces_in within [] = []
pieces_in within (piece ∷ pieces) =
    piece_in within piece ++ (seam_before (is_said piece) pieces ++ pieces_in (behind_piece within piece) pieces)

abbrev pub line_text : Text → List ℕ
line_text text = pieces_in Nothing (parts_written text.parts)

-- a comment behind the first piece, without which the text before a block would begin no rule
abbrev pub cut_behind : Written → List Written → List ℕ
cut_behind piece pieces = if has_more pieces && is_cut piece (piece ∷ pieces) then apart else seam_before (is_said piece) pieces

abbrev pub selector_pieces : List Written → List ℕ
selector_pieces [] = []
selector_pieces (piece ∷ pieces) =
    piece_in Nothing piece ++ (cut_behind piece pieces ++ pieces_in (behind_piece Nothing piece) pieces)

-- the text before the block of a rule
abbrev pub selector_line : Text → List ℕ
selector_line text = selector_pieces (parts_written text.parts)

-- a space and a text, where there is one
abbrev pub spaced_line : Option Text → List ℕ
spaced_line None = []
spaced_line (Some text) = codes " " ++ line_text text
