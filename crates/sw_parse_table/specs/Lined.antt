-- The text of a loud comment that is a statement. In a sheet that was written in lines each of its lines begins with
-- ` * `, the first one with `/* `, and what doesn't close itself is closed (the indented syntax of Sass; how its lines
-- are written is this project's own rule).
use Rattle.std.specs.Prelude.{ℕ, zero, suc, ◌+◌, ◌-◌, ◌==◌, ◌&&◌, Bool, if◌then◌else◌, List, [], ◌∷◌, ◌++◌, codes}
use Rattle.sw_parse_grammar.specs.Grammar.{member}
use Rattle.sw_parse_terminals.specs.declared.terminal.Terminal.TheVariants as terminals
use Rattle.sw_parse_terminals.specs.Numbers.{just}
use Rattle.sw_tree.specs.declared.text.Piece.{Piece}
use Rattle.sw_tree.specs.declared.text.Piece.TheVariants as pieces
use Rattle.sw_tree.specs.declared.text.Parts.{Parts}
use Rattle.sw_tree.specs.declared.text.Parts.TheVariants.{Plain, Mixed}
use Rattle.sw_tree.specs.declared.text.Text.{Text as TreeText}
use Rattle.sw_parse_table.specs.Parts.{Part, Inserts, Stands}
use Rattle.sw_parse_table.specs.Sources.{terminal_at, from_at, to_at, bytes_at, text_piece, text_between, span_between}
use Rattle.sw_parse_table.specs.declared.source.Source.{Source}

module _ (source : Source) where
  -- the token at a place has no text of its own
  abbrev pub is_made : ℕ → Bool
  is_made at = from_at source at == to_at source at

  -- the comment that begins at a place is told by its lines
  abbrev pub is_lined : ℕ → Bool
  is_lined at = member (terminal_at source at) (just terminals.CommentTemplate) && is_made (at + 1)

  -- what a token without a text says in the comment that begins at a place
  abbrev pub line_start : ℕ → ℕ → List ℕ
  line_start at i =
      if member (terminal_at source i) (just terminals.CommentEnd) then codes " */"
      else (if i == at + 1 then codes " "
      else codes "\n * ")

  abbrev pub line_part : ℕ → ℕ → List ℕ
  line_part at i = if is_made i then line_start at i else bytes_at source i

  -- what so many tokens from a place on say
  abbrev pub lines_from : ℕ → ℕ → ℕ → List ℕ
  lines_from at i zero = []
  lines_from at i (suc n) = line_part at i ++ lines_from at (i + 1) n

  -- from a place to before another
  unfoldable pub lines : ℕ → ℕ → ℕ → List ℕ
  lines at from to = lines_from at from (to - from)

  abbrev pub lined_pieces : ℕ → ℕ → ℕ → List Part → List Piece
  lined_pieces at from to [] = text_piece (lines at from to)
  lined_pieces at from to (Inserts i j value ∷ parts) =
      text_piece (lines at from i) ++ pieces.Inserted value ∷ lined_pieces at j to parts
  lined_pieces at from to (Stands i j value ∷ parts) =
      text_piece (lines at from i) ++ pieces.Value value ∷ lined_pieces at j to parts
  lined_pieces at from to (_ ∷ parts) = lined_pieces at from to parts

  abbrev pub lined_parts : ℕ → ℕ → List Part → Parts
  lined_parts at place [] = Plain (lines at at place)
  lined_parts at place (part ∷ parts) = Mixed (lined_pieces at at place (part ∷ parts))

  abbrev pub lined_text : ℕ → ℕ → List Part → TreeText
  lined_text at place inserts = record { parts = lined_parts at place inserts; span = span_between source at place }

  -- the text of the comment from a place to before another, with what is inserted in it
  unfoldable pub comment_text : ℕ → ℕ → List Part → TreeText
  comment_text at place inserts =
      if is_lined at then lined_text at place inserts else text_between source at place inserts
