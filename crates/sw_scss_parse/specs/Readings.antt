-- What reading a sheet gives: its tree, or its fault. The function `sheet_of` says it of each text, `sheet_of_tokens` of
-- each list of tokens, and `ReadsSource` says what of the grammar they stand for.
use Rattle.std.specs.Prelude.{◌≡◌, ℕ, suc, ◌≤◌, ◌⊎◌, List, map, length, Result, Ok, Err}
use Rattle.sw_parse_grammar.specs.Grammar.{Answer, Got, Unexpected, TooDeep, DerivesAny, BeginsAny}
use Rattle.sw_parse_grammar.specs.Levels.{FirstDeep}
use Rattle.sw_text.specs.Places.{Text}
use Rattle.sw_text.specs.declared.fault.Fault.{Fault}
use Rattle.sw_text.specs.declared.fault.FaultCode.TheVariants.{Syntax, Depth}
use Rattle.sw_tokens.specs.Listed.{Listed}
use Rattle.sw_tokens.specs.Ends.{tokens_of}
use Rattle.sw_tokens.specs.Faults.{syntax_fault_at}
use Rattle.sw_tokens.specs.declared.token.Token.{Token}
use Rattle.sw_tokens.specs.declared.token.Fault10.{Fault10}
use Rattle.sw_tokens.specs.declared.token.Fault10.TheVariants as unclosed
use Rattle.sw_parse_lexemes.specs.Lexemes.{lexemes_of}
use Rattle.sw_tree.specs.declared.sheet.Sheet.{Sheet}
use Rattle.sw_tree.specs.declared.statement.Statement.{Statement}
use Rattle.sw_parse_table.specs.declared.source.Source.{Source}
use Rattle.sw_parse_table.specs.Parts.{Part, States, Whole, statements_of}
use Rattle.sw_parse_table.specs.Sources.{text_of}
use Rattle.sw_parse_table.specs.Table.{forms, opening, closing}
use Rattle.sw_parse_table.specs.Reads.{reader}
use Rattle.sw_expr_parse.specs.declared.end.ReadEnd.{ReadEnd}
use Rattle.sw_expr_parse.specs.declared.end.ReadEnd.TheVariants as ends
use Rattle.sw_expr_parse.specs.Readings.{fault_at}
use Rattle.sw_scss_parse.specs.Seen.{source_of}
use Rattle.sw_scss_parse.specs.declared.whole.TheConstants.{LEVELS}

module _ (source : Source) where
  -- an answer of the table's reader: a fault stands at the whole token, and past the last one its span is empty, at the
  -- end of the text
  abbrev pub answered : Answer Part → Result Sheet Fault
  answered (Got parts at) = Ok (record { statements = statements_of parts })
  answered (Unexpected at) = Err (fault_at source Syntax at)
  answered (TooDeep at) = Err (fault_at source Depth at)

  -- at most so many levels of brackets may be open
  abbrev pub source_read : Result Sheet Fault
  source_read = answered (reader source LEVELS (forms source Whole) 0)

  -- The tokens are a sheet of these statements.
  abbrev pub IsSheet : List Statement → Type 0
  IsSheet statements =
      DerivesAny (forms source) (text_of source) Whole 0 (length source.lexemes.now) (map States statements)

  -- The first m tokens begin a sheet.
  abbrev pub BeginsSheet : ℕ → Type 0
  BeginsSheet m = BeginsAny (forms source) (text_of source) Whole 0 m

  -- The tokens up to the one at this place, without it, begin a sheet, and no longer list does; past the last token they
  -- are no sheet.
  abbrev pub StopsAt : ℕ → Type 0
  StopsAt at =
      BeginsSheet at × ((m : ℕ) → BeginsSheet m → m ≤ at)
      × ((statements : List Statement) → at ≡ length source.lexemes.now → IsSheet statements → ⊥)

  -- The tokens up to and with the one at this place begin a sheet, and it is the first that opens a level more than may
  -- be open.
  abbrev pub OpensTooMany : ℕ → Type 0
  OpensTooMany at = BeginsSheet (suc at) × FirstDeep (text_of source) opening closing LEVELS 0 at

  -- the fault stands at the first token with which no sheet can go on, or at the first that opens a level too many
  abbrev pub IsFault : Fault → Type 0
  IsFault fault =
      ((at : ℕ) × StopsAt at × (fault ≡ fault_at source Syntax at))
      ⊎ ((at : ℕ) × OpensTooMany at × (fault ≡ fault_at source Depth at))

  -- the tokens are this sheet and no other, or the fault is theirs
  abbrev pub ReadsSource : Result Sheet Fault → Type 0
  ReadsSource (Ok sheet) =
      IsSheet sheet.statements × ((others : List Statement) → IsSheet others → others ≡ sheet.statements)
  ReadsSource (Err fault) = IsFault fault

  -- where a token is the first that opens a level too many, this is the fault, at it
  abbrev pub TellsDepth : Result Sheet Fault → Type 0
  TellsDepth reading = (at : ℕ) → OpensTooMany at → reading ≡ Err (fault_at source Depth at)

-- The tree of a list of tokens, or its fault.
unfoldable pub sheet_of_tokens : Listed → Result Sheet Fault
sheet_of_tokens listed = source_read (source_of listed)

-- the tokens of a text
abbrev pub listed_in : Text → List Token → Listed
listed_in sheet tokens = record { sheet = sheet; list = tokens }

-- a string, a comment or `#{` that isn't closed is a fault at its first character, before every fault of the grammar
abbrev pub tokens_read : Text → Result (List Token) ℕ → Result Sheet Fault
tokens_read sheet (Ok tokens) = sheet_of_tokens (listed_in sheet tokens)
tokens_read sheet (Err at) = Err (syntax_fault_at sheet at)

-- The tree of a sheet's text, or its fault.
unfoldable pub sheet_of : Text → Result Sheet Fault
sheet_of sheet = tokens_read sheet (tokens_of sheet.bytes)

-- what a call that reads returned is this, unless memory ran out
abbrev pub Returns : Result Sheet ReadEnd → Result Sheet Fault → Type 0
Returns (Ok sheet) reading = reading ≡ Ok sheet
Returns (Err (ends.Fault fault)) reading = reading ≡ Err fault
Returns (Err ends.Memory) reading = Unit {0}

-- how a call that reads ends where a text has no tokens
abbrev pub end_without_tokens : Fault10 → ReadEnd
end_without_tokens (unclosed.Fault fault) = ends.Fault fault
end_without_tokens unclosed.Memory = ends.Memory

-- each token is to the table what `lexemes_of` says
abbrev pub IsSeen : Listed → Type 0
IsSeen listed = (source_of listed).lexemes.now ≡ lexemes_of listed.sheet.bytes listed.list

-- a call that reads a list saw it so, unless memory ran out
abbrev pub Saw : Listed → Result Sheet ReadEnd → Type 0
Saw listed (Err ends.Memory) = Unit {0}
Saw listed result = IsSeen listed

-- the same of the tokens of a text
abbrev pub SawText : Text → Result Sheet ReadEnd → Type 0
SawText sheet result = (tokens : List Token) → tokens_of sheet.bytes ≡ Ok tokens → Saw (listed_in sheet tokens) result

abbrev pub ReadsTokens : Text → Result (List Token) ℕ → Result Sheet Fault → Type 0
ReadsTokens sheet (Ok tokens) reading = ReadsSource (source_of (listed_in sheet tokens)) reading
ReadsTokens sheet (Err at) reading = reading ≡ Err (syntax_fault_at sheet at)

-- What the grammar says that reading this text gives.
abbrev pub IsReading : Text → Result Sheet Fault → Type 0
IsReading sheet reading = ReadsTokens sheet (tokens_of sheet.bytes) reading

-- the same of a level too many
abbrev pub TellsTextDepth : Text → Result Sheet Fault → Type 0
TellsTextDepth sheet reading =
    (tokens : List Token) → tokens_of sheet.bytes ≡ Ok tokens
    → TellsDepth (source_of (listed_in sheet tokens)) reading
