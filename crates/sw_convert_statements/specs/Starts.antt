-- Where a statement may begin.
use Rattle.std.specs.Prelude.{ℕ, zero, suc, Bool, true, false, ◌||◌, Option, Some, None}
use Rattle.sw_parse_terminals.specs.declared.lexeme.Lexeme.{Lexeme}
use Rattle.sw_parse_lexemes.specs.Steps.{begins_statement}
use Rattle.sw_parse_table.specs.declared.source.Source.{Source}
use Rattle.sw_parse_table.specs.Sources.{lexeme_at}
use Rattle.sw_convert_again.specs.Statements.{is_last}

abbrev pub begins_behind : Option Lexeme → Bool
begins_behind None = false
begins_behind (Some lexeme) = begins_statement lexeme.terminal

-- at the begin of a sheet, and behind a `;`, a brace or a comment
abbrev pub starts : Source → ℕ → Bool
starts source zero = true
starts source (suc at) = begins_behind (lexeme_at source at)

-- there, and where none stands, before a `}` or at the end of a text
abbrev pub may_begin : Source → ℕ → Bool
may_begin source at = starts source at || is_last source at
