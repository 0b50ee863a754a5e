-- What is written of the statements of a sheet is its tokens, where what is written of each up to its end or its block is.
use Rattle.std.specs.Prelude.{◌≡◌, ℕ, false, List, [], ◌∷◌, ◌++◌, map, codes}
use Rattle.sw_tree.specs.declared.statement.Statement.{Statement}
use Rattle.sw_tokens.specs.declared.pieces.Before.{Before}
use Rattle.sw_tokens.specs.declared.pieces.Before.TheVariants as befores
use Rattle.sw_parse_table.specs.declared.source.Source.{Source}
use Rattle.sw_convert_written.specs.Statements.{top_text, statement_shown}
use Rattle.sw_convert_passing.specs.Written.{Written}
use Rattle.sw_convert_again.specs.Tokens.{Tok}
use Rattle.sw_convert_again.specs.Statements.{SpellsStatements}
use Rattle.sw_convert_heads_passing.specs.Statements.{Statements}
use Rattle.sw_convert_texts.specs.RawTexts.{SheetSegment}
use Rattle.sw_convert_statements.specs.Segments.{Anything}
use Rattle.sw_convert_statements.specs.Statements.{ListHasFronts}

-- behind the last statement stands a line feed
abbrev pub last_line : List Statement → List ℕ
last_line [] = []
last_line (statement ∷ list) = codes "\n"

-- the text of these statements, up to the last line feed, is these tokens, which the pass over tokens tells as statements
pub record IsSheetWritten (list : List Statement) (tokens : List Tok) : Type 0 where
  pub text : List ℕ
  pub text_is : top_text (map statement_shown list) ≡ text ++ last_line list
  pub passed : List Written
  pub listed : Statements false passed
  pub end : Before
  pub segment : SheetSegment befores.Other text tokens passed end Anything

abbrev pub SheetsAreWritten : Type 0
SheetsAreWritten =
    (source : Source) (i j : ℕ) (list : List Statement) (tokens : List Tok)
    → (spelt : SpellsStatements source i j list tokens) → ListHasFronts spelt → IsSheetWritten list tokens
