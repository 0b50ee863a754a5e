-- The lines of a loud comment (this project's own rule): what stands between `/*` and `*/`, cut at line breaks, each line
-- without white space at its ends and without the `*` at its front and the white space behind them; empty lines don't
-- count. A comment in which a value stands isn't cut.
use Rattle.std.specs.Prelude.{ℕ, ◌-◌, Bool, true, false, not, ◌==◌, if◌then◌else◌, List, [], ◌∷◌, map, filter, drop, take, length}
use Rattle.std.specs.List.{list_any}
use Rattle.sw_text_scan.specs.Bytes.{sign, is_white, is_break}
use Rattle.sw_tree.specs.declared.expr.ExprKind.TheOpen.{Parts-F}
use Rattle.sw_tree.specs.declared.text.Parts.{Parts, out-Parts}
use Rattle.sw_tree.specs.declared.text.Parts.TheVariants.{Mixed}
use Rattle.sw_tree.specs.declared.text.Piece.TheVariants as pieces
use Rattle.sw_convert_alike.specs.RawText.{OpenParts}

-- without the bytes at its front that pass
abbrev pub without_front : (ℕ → Bool) → List ℕ → List ℕ
without_front test [] = []
without_front test (b ∷ bytes) = if test b then without_front test bytes else b ∷ bytes

-- without the white space at its end
abbrev pub without_end : List ℕ → List ℕ
without_end [] = []
without_end (b ∷ bytes) = if list_any (λ c. not (is_white c)) (b ∷ bytes) then b ∷ without_end bytes else []

-- a line without what doesn't count
abbrev pub bare_line : List ℕ → List ℕ
bare_line line =
    without_front is_white (without_front (λ b. b == sign "*") (without_front is_white (without_end line)))

-- a byte before the first of some lines
abbrev pub onto : ℕ → List (List ℕ) → List (List ℕ)
onto b [] = (b ∷ []) ∷ []
onto b (line ∷ lines) = (b ∷ line) ∷ lines

abbrev pub cut_lines : List ℕ → List (List ℕ)
cut_lines [] = [] ∷ []
cut_lines (b ∷ bytes) = if is_break b then [] ∷ cut_lines bytes else onto b (cut_lines bytes)

abbrev pub is_full : List ℕ → Bool
is_full [] = false
is_full (b ∷ line) = true

-- what stands between `/*` and `*/`
abbrev pub inside : List ℕ → List ℕ
inside text = drop 2 (take (length text - 2) text)

-- the lines of a comment's text
abbrev pub lines_of : List ℕ → List (List ℕ)
lines_of text = filter is_full (map bare_line (cut_lines (inside text)))

abbrev pub lined_by : OpenParts → Parts
lined_by (Parts-F.Plain text) = Mixed (map pieces.Text (lines_of text))
lined_by (Parts-F.Mixed pieces) = Mixed pieces

-- a comment as its lines
unfoldable pub lined : Parts → Parts
lined parts = lined_by (out-Parts parts)
