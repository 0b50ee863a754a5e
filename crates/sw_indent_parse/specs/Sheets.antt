-- What reading an indented sheet gives: its tree, or its fault. The function `indented_sheet_of` says it of each text,
-- and `IsReading` says what of the grammar it stands for.
use Rattle.std.specs.Prelude.{◌≡◌, List, Result, Ok, Err}
use Rattle.sw_text.specs.Places.{Text}
use Rattle.sw_text.specs.declared.fault.Fault.{Fault}
use Rattle.sw_tokens.specs.declared.token.Token.{Token}
use Rattle.sw_tree.specs.declared.sheet.Sheet.{Sheet}
use Rattle.sw_expr_parse.specs.declared.end.ReadEnd.{ReadEnd}
use Rattle.sw_scss_parse.specs.Seen.{source_of}
use Rattle.sw_scss_parse.specs.Readings.{listed_in, sheet_of_tokens, ReadsSource, TellsDepth, Saw}
use Rattle.sw_parse_layout.specs.declared.walk.Place.{Place}
use Rattle.sw_parse_layout.specs.Layout.{layout}
use Rattle.sw_parse_layout.specs.Faults.{fault_at}

-- a fault of the layout comes before every fault of the grammar
abbrev pub layout_read : Text → Result (List Token) Place → Result Sheet Fault
layout_read sheet (Ok tokens) = sheet_of_tokens (listed_in sheet tokens)
layout_read sheet (Err place) = Err (fault_at sheet place)

-- The tree of an indented text, or its fault.
unfoldable pub indented_sheet_of : Text → Result Sheet Fault
indented_sheet_of sheet = layout_read sheet (layout sheet.bytes)

abbrev pub ReadsLayout : Text → Result (List Token) Place → Result Sheet Fault → Type 0
ReadsLayout sheet (Ok tokens) reading = ReadsSource (source_of (listed_in sheet tokens)) reading
ReadsLayout sheet (Err place) reading = reading ≡ Err (fault_at sheet place)

-- What the grammar says that reading this text gives: the list that the text stands for is this sheet and no other, or
-- the fault is the list's own, or that of the layout.
abbrev pub IsReading : Text → Result Sheet Fault → Type 0
IsReading sheet reading = ReadsLayout sheet (layout sheet.bytes) reading

-- where a token of the list is the first that opens a level too many, this is the fault, at it
abbrev pub TellsLayoutDepth : Text → Result Sheet Fault → Type 0
TellsLayoutDepth sheet reading =
    (tokens : List Token) → layout sheet.bytes ≡ Ok tokens
    → TellsDepth (source_of (listed_in sheet tokens)) reading

-- a call that reads a text saw each token of its list as `lexemes_of` says, unless memory ran out
abbrev pub SawLayout : Text → Result Sheet ReadEnd → Type 0
SawLayout sheet result =
    (tokens : List Token) → layout sheet.bytes ≡ Ok tokens → Saw (listed_in sheet tokens) result
