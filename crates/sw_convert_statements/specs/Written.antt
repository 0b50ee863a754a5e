-- What is written of statements is their tokens, where what is written of each up to its end or its block is.
use Rattle.std.specs.Prelude.{◌≡◌, ℕ, false, List, ◌++◌, map, codes}
use Rattle.sw_tree.specs.declared.statement.Statement.{Statement}
use Rattle.sw_tokens.specs.declared.pieces.Before.{Before}
use Rattle.sw_parse_table.specs.declared.source.Source.{Source}
use Rattle.sw_convert_written.specs.Statements.{ShownStatement, inner_text, statement_shown}
use Rattle.sw_convert_passing.specs.Written.{Written}
use Rattle.sw_convert_again.specs.Tokens.{Tok}
use Rattle.sw_convert_again.specs.Statements.{SpellsStatements}
use Rattle.sw_convert_heads_passing.specs.Statements.{Statements}
use Rattle.sw_convert_texts.specs.RawTexts.{SheetSegment}
use Rattle.sw_convert_statements.specs.Segments.{Anything}
use Rattle.sw_convert_statements.specs.Statements.{ListHasFronts}

-- statements in so many blocks, each on a line of its own, behind a line feed and up to the last one: tokens that the pass
-- over tokens tells as statements
pub record AreLinesWritten (level : ℕ) (shown : List ShownStatement) (tokens : List Tok) (before : Before) : Type 0 where
  pub text : List ℕ
  pub text_is : codes "\n" ++ inner_text level shown ≡ text ++ codes "\n"
  pub passed : List Written
  pub listed : Statements false passed
  pub end : Before
  pub segment : SheetSegment before text tokens passed end Anything

abbrev pub StatementsAreWritten : Type 0
StatementsAreWritten =
    (source : Source) (i j : ℕ) (list : List Statement) (tokens : List Tok)
    → (spelt : SpellsStatements source i j list tokens) → ListHasFronts spelt → (level : ℕ) (before : Before)
    → AreLinesWritten level (map statement_shown list) tokens before
