-- What reading a text as plain CSS gives: its tree, or its fault. The function `css_of` says it of each text, and
-- `IsReading` says what of the grammar it stands for.
use Rattle.std.specs.Prelude.{◌≡◌, ℕ, suc, ◌≤◌, ◌⊎◌, List, map, length, Result, Ok, Err}
use Rattle.sw_parse_grammar.specs.Grammar.{Answer, Got, Unexpected, TooDeep, DerivesAny, BeginsAny}
use Rattle.sw_parse_grammar.specs.Levels.{FirstDeep}
use Rattle.sw_text.specs.Places.{Text}
use Rattle.sw_text.specs.declared.fault.Fault.{Fault}
use Rattle.sw_text.specs.declared.fault.FaultCode.{FaultCode}
use Rattle.sw_text.specs.declared.fault.FaultCode.TheVariants.{Syntax, Depth}
use Rattle.sw_tokens.specs.declared.token.Token.{Token}
use Rattle.sw_tokens.specs.declared.token.Syntax.TheVariants.{Css}
use Rattle.sw_tokens.specs.Ends.{tokens_in}
use Rattle.sw_tokens.specs.Faults.{syntax_fault_at}
use Rattle.sw_tree.specs.declared.sheet.Sheet.{Sheet}
use Rattle.sw_tree.specs.declared.statement.Statement.{Statement}
use Rattle.sw_parse_table.specs.Parts.{Part, States, statements_of}
use Rattle.sw_parse_css.specs.declared.end.ReadEnd.{ReadEnd}
use Rattle.sw_parse_css.specs.declared.end.ReadEnd.TheVariants as ends
use Rattle.sw_parse_css.specs.declared.sheet.TheConstants.{LEVELS}
use Rattle.sw_parse_css.specs.Seen.{Seen, seen_of, text_of, span_at}
use Rattle.sw_parse_css.specs.Sheets.{Whole, forms, opening, closing}
use Rattle.sw_parse_css.specs.Reads.{reader}

module _ (seen : Seen) where
  -- a fault at the token at a place; past the last one its span is empty, at the end of the text
  abbrev pub fault_at : FaultCode → ℕ → Fault
  fault_at code at = record { code = code; span = span_at seen at }

  abbrev pub answered : Answer Part → Result Sheet Fault
  answered (Got parts j) = Ok (record { statements = statements_of parts })
  answered (Unexpected at) = Err (fault_at Syntax at)
  answered (TooDeep at) = Err (fault_at Depth at)

  -- at most so many levels of brackets and blocks may be open
  abbrev pub seen_read : Result Sheet Fault
  seen_read = answered (reader seen LEVELS (forms seen Whole) 0)

  -- the tokens are a sheet of these statements
  abbrev pub IsSheet : List Statement → Type 0
  IsSheet statements = DerivesAny (forms seen) (text_of seen) Whole 0 (length seen.lexemes) (map States statements)

  -- the first m tokens begin a sheet
  abbrev pub BeginsSheet : ℕ → Type 0
  BeginsSheet m = BeginsAny (forms seen) (text_of seen) Whole 0 m

  -- The tokens before the one at this place begin a sheet, and no longer list does; past the last token they are no
  -- sheet.
  abbrev pub StopsAt : ℕ → Type 0
  StopsAt at =
      BeginsSheet at × ((m : ℕ) → BeginsSheet m → m ≤ at)
      × ((statements : List Statement) → at ≡ length seen.lexemes → IsSheet statements → ⊥)

  -- The tokens up to and with the one at this place begin a sheet, and it is the first that opens a level too many.
  abbrev pub OpensTooMany : ℕ → Type 0
  OpensTooMany at = BeginsSheet (suc at) × FirstDeep (text_of seen) opening closing LEVELS 0 at

  -- the fault stands at the first token with which no sheet goes on, or at the first that opens a level too many
  abbrev pub IsFault : Fault → Type 0
  IsFault fault =
      ((at : ℕ) × StopsAt at × (fault ≡ fault_at Syntax at))
      ⊎ ((at : ℕ) × OpensTooMany at × (fault ≡ fault_at Depth at))

  -- the tokens are this sheet and no other, or the fault is theirs
  abbrev pub ReadsSeen : Result Sheet Fault → Type 0
  ReadsSeen (Ok tree) =
      IsSheet tree.statements × ((others : List Statement) → IsSheet others → others ≡ tree.statements)
  ReadsSeen (Err fault) = IsFault fault

-- a string or a comment that isn't closed is a fault at its first character, before every fault of the grammar
abbrev pub tokens_read : Text → Result (List Token) ℕ → Result Sheet Fault
tokens_read sheet (Ok tokens) = seen_read (seen_of (record { sheet = sheet; list = tokens }))
tokens_read sheet (Err at) = Err (syntax_fault_at sheet at)

-- The tree of a text of plain CSS, or its fault.
unfoldable pub css_of : Text → Result Sheet Fault
css_of sheet = tokens_read sheet (tokens_in Css sheet.bytes)

-- what a call that reads returned is this, unless memory ran out
abbrev pub Returns : Result Sheet ReadEnd → Result Sheet Fault → Type 0
Returns (Ok sheet) reading = reading ≡ Ok sheet
Returns (Err (ends.Fault fault)) reading = reading ≡ Err fault
Returns (Err ends.Memory) reading = Unit {0}

abbrev pub ReadsTokens : Text → Result (List Token) ℕ → Result Sheet Fault → Type 0
ReadsTokens sheet (Ok tokens) reading = ReadsSeen (seen_of (record { sheet = sheet; list = tokens })) reading
ReadsTokens sheet (Err at) reading = reading ≡ Err (syntax_fault_at sheet at)

-- What the grammar says that reading this text gives.
abbrev pub IsReading : Text → Result Sheet Fault → Type 0
IsReading sheet reading = ReadsTokens sheet (tokens_in Css sheet.bytes) reading

-- where a token is the first that opens a level too many, this is the fault, at it
abbrev pub TellsDepth : Text → Result Sheet Fault → Type 0
TellsDepth sheet reading =
    (tokens : List Token) (at : ℕ) → tokens_in Css sheet.bytes ≡ Ok tokens
    → OpensTooMany (seen_of (record { sheet = sheet; list = tokens })) at
    → reading ≡ Err (fault_at (seen_of (record { sheet = sheet; list = tokens })) Depth at)

-- what a call that reads returned is what the grammar says, unless memory ran out
abbrev pub Obeys : Text → Result Sheet ReadEnd → Type 0
Obeys sheet (Ok tree) = IsReading sheet (Ok tree)
Obeys sheet (Err (ends.Fault fault)) = IsReading sheet (Err fault)
Obeys sheet (Err ends.Memory) = Unit {0}
