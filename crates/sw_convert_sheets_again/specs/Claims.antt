-- What is claimed of media queries and of whole sheets that were read.
use Rattle.std.specs.Prelude.{◌≡◌, ℕ, suc, List, [], ◌∷◌, length}
use Rattle.sw_parse_grammar.specs.Grammar.{Derives}
use Rattle.sw_text.specs.declared.place.Span.{Span}
use Rattle.sw_tree.specs.declared.text.Parts.TheVariants.{Mixed}
use Rattle.sw_tree.specs.declared.text.Piece.{Piece}
use Rattle.sw_tree.specs.declared.text.Text.{Text}
use Rattle.sw_parse_table.specs.declared.source.Source.{Source}
use Rattle.sw_parse_table.specs.Parts.{Part, Texts, Whole}
use Rattle.sw_parse_table.specs.Sources.{text_of, span_between}
use Rattle.sw_parse_table.specs.Queries.{queries}
use Rattle.sw_parse_table.specs.Table.{forms}
use Rattle.sw_convert_alike.specs.Expressions.{LikePieces}
use Rattle.sw_convert_again.specs.Tokens.{Tok, Stands}
use Rattle.sw_convert_again.specs.Again.{Reads}
use Rattle.sw_convert_again.specs.Queries.{SpellsQueries}
use Rattle.sw_convert_again.specs.Claims.{IsSheetAgain}

-- the text of queries
abbrev pub queried : List Piece → Span → Text
queried list span = record { parts = Mixed list; span = span }

-- what was read are queries, they have tokens, and wherever these stand they are read as queries like them
pub record AreQueriesAgain (source written : Source) (n i j : ℕ) (w : List Part) : Type 0 where
  pub list : List Piece
  pub is : w ≡ Texts (queried list (span_between source i j)) ∷ []
  pub tokens : List Tok
  pub spells : SpellsQueries source i j list tokens
  pub back : (p q : ℕ) → Stands written p tokens q
      → (found : List Piece)
      × Reads written n (queries written) p q (Texts (queried found (span_between written p q)) ∷ [])
      × LikePieces list found

abbrev pub QueriesAgain : Source → Source → ℕ → Type 0
QueriesAgain source written n =
    (i j : ℕ) (w : List Part) → Reads source n (queries source) i j w → AreQueriesAgain source written n i j w

-- all sheets are read again
abbrev pub AllSheetsAgain : Type 0
AllSheetsAgain =
    (source written : Source) (levels : ℕ) (parts : List Part)
    → Derives (forms source) (text_of source) (suc levels) Whole 0 (length source.lexemes.now) parts
    → IsSheetAgain source written levels parts
