-- A loud comment as it is written in lines: `/* `, or `/*` before a `!`, and its first line, and each further line below it, three columns
-- deeper. Its lines are those that likeness compares.
use Rattle.std.specs.Prelude.{ℕ, suc, ◌+◌, Bool, true, false, not, ◌==◌, if◌then◌else◌, List, [], ◌∷◌, ◌++◌, map, filter, take, codes}
use Rattle.sw_text_scan.specs.Bytes.{sign, is_white, is_break}
use Rattle.sw_tree.specs.declared.expr.ExprKind.TheOpen.{Parts-F}
use Rattle.sw_tree.specs.declared.text.Parts.{Parts, out-Parts}
use Rattle.sw_convert_alike.specs.RawText.{OpenParts}
use Rattle.sw_convert_alike.specs.Comments.{bare_line, is_full, cut_lines, lines_of}
use Rattle.sw_convert_written.specs.Statements.{indent}

abbrev pub is_star : ℕ → Bool
is_star b = b == sign "*"

-- where a text ends without the white space at its end, from a place in it on, up to which it ends here
abbrev pub end_from : ℕ → ℕ → List ℕ → ℕ
end_from to at [] = to
end_from to at (b ∷ bytes) = end_from (if not (is_white b) then at + 1 else to) (at + 1) bytes

-- where the first line of a text ends
abbrev pub line_end : List ℕ → ℕ
line_end [] = 0
line_end (b ∷ bytes) = if is_break b then 0 else suc (line_end bytes)

-- the first line of a text, without what doesn't count in it
abbrev pub first_in : List ℕ → List ℕ
first_in bytes = bare_line (take (line_end bytes) bytes)

-- empty lines don't count
abbrev pub full_before : List ℕ → List (List ℕ) → List (List ℕ)
full_before line lines = if is_full line then line ∷ lines else lines

-- the lines of what stands between the signs of a comment
abbrev pub lines_in : List ℕ → List (List ℕ)
lines_in bytes = filter is_full (map bare_line (cut_lines bytes))

abbrev pub begins_star : List ℕ → Bool
begins_star [] = false
begins_star (b ∷ bytes) = b == sign "*"

-- of a `*` at the front of the first line one more is left out when it is read
abbrev pub first_line : List ℕ → List ℕ
first_line line = if begins_star line then codes "* " ++ line else line

abbrev pub begins_mark : List ℕ → Bool
begins_mark [] = false
begins_mark (b ∷ bytes) = b == sign "!"

-- a `!` stands directly behind the `/*`, where tools look for it
abbrev pub comment_opening : List ℕ → List ℕ
comment_opening line = if begins_mark line then codes "/*" else codes "/* "

-- a line behind those before it, in so many blocks
abbrev pub line_of : ℕ → Bool → List ℕ → List ℕ
line_of level true line = comment_opening line ++ first_line line
line_of level false line = codes "\n" ++ (indent level ++ (codes "   " ++ line))

-- a line where it counts, behind others or as the first one
abbrev pub full_line : ℕ → Bool → List ℕ → List ℕ
full_line level some line = if is_full line then line_of level (not some) line else []

abbrev pub lines_from : ℕ → Bool → List (List ℕ) → List ℕ
lines_from level first [] = []
lines_from level first (line ∷ lines) = line_of level first line ++ lines_from level false lines

abbrev pub lines_text : ℕ → List (List ℕ) → List ℕ
lines_text level lines = lines_from level true lines

-- the lines of a comment; one in which a value stands has none that could be written
abbrev pub comment_lines_by : OpenParts → List (List ℕ)
comment_lines_by (Parts-F.Plain text) = lines_of text
comment_lines_by (Parts-F.Mixed pieces) = []

unfoldable pub comment_lines : Parts → List (List ℕ)
comment_lines parts = comment_lines_by (out-Parts parts)
