-- How a file is read, by the extension of its path (Sass documentation, "Syntax"; the fault is this project's own).
use Rattle.std.specs.Prelude.{ℕ, nat_eq, if◌then◌else◌, List, Option, Some, None, Result, Err, codes}
use Rattle.std.specs.List.{ends_with}
use Rattle.sw_text.specs.Places.{Text}
use Rattle.sw_text.specs.Starts.{start_of}
use Rattle.sw_text.specs.declared.fault.FaultCode.TheVariants.{Syntax}
use Rattle.sw_text.specs.declared.fault.Fault.{Fault}
use Rattle.sw_tree.specs.declared.sheet.Sheet.{Sheet}
use Rattle.sw_parse_css.specs.Reading.{css_of}
use Rattle.sw_indent_parse.specs.Sheets.{indented_sheet_of}
use Rattle.sw_scss_parse.specs.Readings.{sheet_of}
use Rattle.sw_parse_file.specs.declared.language.Language.{Language}
use Rattle.sw_parse_file.specs.declared.language.Language.TheVariants.{Scss, Indented, Css}

-- the language that the extension of a path names
unfoldable pub language_of : List ℕ → Option Language
language_of path =
    if ends_with nat_eq path (codes ".scss") then Some Scss
    else (if ends_with nat_eq path (codes ".sass") then Some Indented
    else (if ends_with nat_eq path (codes ".css") then Some Css
    else None))

-- a fault of syntax at the first place of a file
abbrev pub unread : List ℕ → Fault
unread path = record { code = Syntax; span = start_of path }

-- a text as one of a language
abbrev pub sheet_in : Option Language → Text → Result Sheet Fault
sheet_in (Some Scss) text = sheet_of text
sheet_in (Some Css) text = css_of text
sheet_in (Some Indented) text = indented_sheet_of text
sheet_in None text = Err (unread text.path)

-- the sheet of a file with this path and text, or its fault
unfoldable pub sheet_at : List ℕ → List ℕ → Result Sheet Fault
sheet_at path text = sheet_in (language_of path) (record { path = path; bytes = text })
