-- What is written of the text of a sheet. This project's own rule.
use Rattle.std.specs.Prelude.{ℕ, List, Option, None, Some, Result, Ok, Err, codes}
use Rattle.sw_text.specs.declared.place.Span.{Span}
use Rattle.sw_text.specs.declared.fault.Fault.{Fault}
use Rattle.sw_tree.specs.declared.sheet.Sheet.{Sheet}
use Rattle.sw_convert_written.specs.Statements.{sheet_text}
use Rattle.sw_convert_lines.specs.Lines.{indented_text, refused_at}
use Rattle.sw_wire.specs.Replies.{fault_text, not_indentable_text}
use Rattle.sw_cmd_line.specs.declared.syntax.Syntax.{Syntax}
use Rattle.sw_cmd_line.specs.declared.syntax.Syntax.TheVariants as syntaxes
use Rattle.sw_cmd_convert.specs.declared.written.Written.{Written}
use Rattle.sw_cmd_convert.specs.declared.written.Written.TheVariants.{Whole, Refusal}

-- where a sheet of this syntax is said to stand
abbrev pub path_of : Syntax → List ℕ
path_of syntaxes.Scss = codes "in.scss"
path_of syntaxes.Indented = codes "in.sass"

abbrev pub bytes_of : Written → List ℕ
bytes_of (Whole text) = text
bytes_of (Refusal line) = line

-- in lines, unless these can't hold the statement at this place
abbrev pub lines_of : Option Span → Sheet → Written
lines_of None sheet = Whole (indented_text sheet)
lines_of (Some span) sheet = Refusal (not_indentable_text span)

abbrev pub sheet_written : Syntax → Sheet → Written
sheet_written syntaxes.Scss sheet = Whole (sheet_text sheet)
sheet_written syntaxes.Indented sheet = lines_of (refused_at sheet) sheet

abbrev pub reading_written : Syntax → Result Sheet Fault → Written
reading_written to (Ok sheet) = sheet_written to sheet
reading_written to (Err fault) = Refusal (fault_text fault)

-- which sheet or which fault a text at a path gives
abbrev pub Reads : Type 0
Reads = List ℕ → List ℕ → Result Sheet Fault

-- what is written in the second syntax of a text of the first one
abbrev pub converted : Reads → Syntax → Syntax → List ℕ → Written
converted reads from to text = reading_written to (reads (path_of from) text)
