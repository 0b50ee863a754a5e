-- The text that is written of a sheet that was read is read to a sheet alike.
use Rattle.std.specs.Prelude.{◌≡◌, ℕ, suc, true, List, map, length, Ok}
use Rattle.sw_tree.specs.declared.statement.Statement.{Statement}
use Rattle.sw_tokens.specs.Ends.{tokens_of}
use Rattle.sw_parse_grammar.specs.Grammar.{Derives, Got}
use Rattle.sw_parse_lexemes.specs.Lexemes.{lexemes_of}
use Rattle.sw_parse_table.specs.declared.source.Source.{Source}
use Rattle.sw_parse_table.specs.Parts.{Part, States, Whole}
use Rattle.sw_parse_table.specs.Sources.{bytes, text_of}
use Rattle.sw_parse_table.specs.Reads.{reader}
use Rattle.sw_parse_table.specs.Table.{forms}
use Rattle.sw_convert_alike.specs.Statements.{LikeBlock}
use Rattle.sw_convert_written.specs.Statements.{sheet_text}
use Rattle.sw_convert_again.specs.Claims.{IsSheetAgain}
use Rattle.sw_convert_tokens.specs.Values.{WasRead}
use Rattle.sw_convert_statements.specs.Statements.{ListHasFronts}
use Rattle.sw_convert_values.specs.Values.{SinglesAreWritten}
use Rattle.sw_convert_statements.specs.Told.{list_known}

-- what is read of a text as a sheet that isn't written in lines: its tokens, and what the grammar sees of them
pub record IsSheetText (source : Source) (text : List ℕ) : Type 0 where
  pub text_is : bytes source ≡ text
  pub tokens_are : tokens_of text ≡ Ok source.tokens.now.list
  pub lexemes_are : source.lexemes.now ≡ lexemes_of text source.tokens.now.list

-- of a sheet of which there are tokens that are read again, and whose statements are written as their tokens up to their
-- ends and their blocks
abbrev pub SheetsReadBack : Type 0
SheetsReadBack =
    (source written : Source) (levels : ℕ) (parts : List Part) (again : IsSheetAgain source written levels parts)
    → ListHasFronts again.spells → IsSheetText written (sheet_text (record { statements = again.list }))
    → (found : List Statement)
    × (reader written levels (forms written Whole) 0 ≡ Got (map States found) (length written.lexemes.now))
    × LikeBlock again.list found

-- ---- from the sheet that was read

-- of a sheet that was read there are tokens that are read again, and where all its statements are of the kinds that are
-- written as their tokens, its text is read to a sheet alike
pub record IsReadBack (source written : Source) (levels : ℕ) (parts : List Part) : Type 0 where
  pub again : IsSheetAgain source written levels parts
  pub back : list_known again.spells ≡ true → IsSheetText written (sheet_text (record { statements = again.list }))
      → (found : List Statement)
      × (reader written levels (forms written Whole) 0 ≡ Got (map States found) (length written.lexemes.now))
      × LikeBlock again.list found

-- that is so of every sheet of which these single values are written as their tokens
abbrev pub ScssIsReadBack : Type 0
ScssIsReadBack =
    (source written : Source) (levels : ℕ) (parts : List Part)
    → Derives (forms source) (text_of source) (suc levels) Whole 0 (length source.lexemes.now) parts
    → WasRead source → SinglesAreWritten source → IsReadBack source written levels parts
