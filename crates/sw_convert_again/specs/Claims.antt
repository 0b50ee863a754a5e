-- What is claimed of statements, blocks and sheets that were read: they have tokens, and where these stand they are
-- read as ones like them.
use Rattle.std.specs.Prelude.{◌≡◌, ℕ, suc, List, [], ◌∷◌, map, length}
use Rattle.sw_parse_grammar.specs.Grammar.{Grammar, Row, Derives, Got}
use Rattle.sw_tree.specs.declared.statement.Statement.{Statement}
use Rattle.sw_parse_table.specs.declared.source.Source.{Source}
use Rattle.sw_parse_table.specs.Parts.{Part, Form, Whole, Blocks, States}
use Rattle.sw_parse_table.specs.Sources.{text_of}
use Rattle.sw_parse_table.specs.Statements.{block, set, assigned, declaration, custom, rule, supports, at_root, import, extend, charset, return, warn, debug, error, if_, each, for_, while_, at, function, mixin, include, content, statement}
use Rattle.sw_parse_table.specs.Table.{forms}
use Rattle.sw_parse_table.specs.Reads.{reader}
use Rattle.sw_convert_alike.specs.Statements.{LikeStatement, LikeBlock}
use Rattle.sw_convert_again.specs.Tokens.{Tok, Stands}
use Rattle.sw_convert_again.specs.Again.{Reads}
use Rattle.sw_convert_again.specs.Statements.{SpellsStatement, SpellsBlock, SpellsStatements}

-- between two places stands a statement like this one
pub record FoundStatement (written : Source) (n : ℕ) (g : Grammar Part Form) (statement : Statement) (p q : ℕ) :
    Type 0 where
  pub found : Statement
  pub reads : Reads written n g p q (States found ∷ [])
  pub alike : LikeStatement statement found

-- what was read is one statement, it has tokens, and wherever these stand they are read as one like it
pub record IsStatementAgain (source written : Source) (n : ℕ) (g : Grammar Part Form) (i j : ℕ) (w : List Part) :
    Type 0 where
  pub statement : Statement
  pub is : w ≡ States statement ∷ []
  pub tokens : List Tok
  pub spells : SpellsStatement source i j statement tokens
  pub back : (p q : ℕ) → Stands written p tokens q → FoundStatement written n g statement p q

-- the same of a block
pub record IsBlockAgain (source written : Source) (n i j : ℕ) (w : List Part) : Type 0 where
  pub list : List Statement
  pub is : w ≡ Blocks list ∷ []
  pub tokens : List Tok
  pub spells : SpellsBlock source i j list tokens
  pub back : (p q : ℕ) → Stands written p tokens q
      → (found : List Statement) × Reads written n (block written) p q (Blocks found ∷ []) × LikeBlock list found

abbrev pub StatementAgain : Source → Source → ℕ → (Source → Grammar Part Form) → Type 0
StatementAgain source written n g =
    (i j : ℕ) (w : List Part) → Reads source n (g source) i j w → IsStatementAgain source written n (g written) i j w

abbrev pub BlocksAgain : Source → Source → ℕ → Type 0
BlocksAgain source written n =
    (i j : ℕ) (w : List Part) → Reads source n (block source) i j w → IsBlockAgain source written n i j w

-- statements without a block
pub record LinesAgain (source written : Source) (n : ℕ) : Type 0 where
  pub variables : StatementAgain source written n set
  pub assignments : StatementAgain source written n assigned
  pub customs : StatementAgain source written n custom
  pub contents : StatementAgain source written n content
  pub returns : StatementAgain source written n return
  pub warns : StatementAgain source written n warn
  pub debugs : StatementAgain source written n debug
  pub errors : StatementAgain source written n error
  pub imports : StatementAgain source written n import
  pub extends : StatementAgain source written n extend
  pub charsets : StatementAgain source written n charset

-- statements with one
pub record NestedAgain (source written : Source) (n : ℕ) : Type 0 where
  pub ifs : StatementAgain source written n if_
  pub eaches : StatementAgain source written n each
  pub fors : StatementAgain source written n for_
  pub whiles : StatementAgain source written n while_
  pub supports : StatementAgain source written n supports
  pub rules : StatementAgain source written n rule
  pub functions : StatementAgain source written n function
  pub mixins : StatementAgain source written n mixin
  pub includes : StatementAgain source written n include
  pub at_roots : StatementAgain source written n at_root
  -- with a block or without one, and with a value, a block or both
  pub at_rules : StatementAgain source written n at
  pub declarations : StatementAgain source written n declaration

-- what was read is a list of statements, one or none, it has tokens, and wherever these stand they are read as one like
-- it
pub record IsListAgain (source written : Source) (n i j : ℕ) (w : List Part) : Type 0 where
  pub list : List Statement
  pub is : w ≡ map States list
  pub tokens : List Tok
  pub spells : SpellsStatements source i j list tokens
  pub back : (p q : ℕ) → Stands written p tokens q
      → (found : List Statement) × Row (Reads written n (statement written)) p q (map States found)
      × LikeBlock list found

-- all statements with so many levels of brackets in them are read again
abbrev pub StatementsAgain : Source → Source → ℕ → Type 0
StatementsAgain source written n =
    (i j : ℕ) (w : List Part) → Reads source n (statement source) i j w → IsListAgain source written n i j w

-- the same of a whole sheet: where its tokens are all of a text, the reader answers a sheet like it
pub record IsSheetAgain (source written : Source) (levels : ℕ) (parts : List Part) : Type 0 where
  pub list : List Statement
  pub is : parts ≡ map States list
  pub tokens : List Tok
  pub spells : SpellsStatements source 0 (length source.lexemes.now) list tokens
  pub back : Stands written 0 tokens (length written.lexemes.now)
      → (found : List Statement)
      × (reader written levels (forms written Whole) 0 ≡ Got (map States found) (length written.lexemes.now))
      × LikeBlock list found

abbrev pub SheetsAgain : Type 0
SheetsAgain =
    (source written : Source) (levels : ℕ) → StatementsAgain source written levels → (parts : List Part)
    → Derives (forms source) (text_of source) (suc levels) Whole 0 (length source.lexemes.now) parts
    → IsSheetAgain source written levels parts
