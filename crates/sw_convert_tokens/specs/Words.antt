-- Names that were read as words by themselves are written as they stood.
use Rattle.std.specs.Prelude.{◌≡◌, ℕ, suc, false, [], ◌∷◌}
use Rattle.sw_text.specs.declared.place.Span.{Span}
use Rattle.sw_tree.specs.declared.expr.ExprKind.TheVariants as exprs
use Rattle.sw_parse_terminals.specs.declared.terminal.Terminal.TheVariants as terminals
use Rattle.sw_parse_terminals.specs.Numbers.{just}
use Rattle.sw_parse_lexemes.specs.Classes.{is_reserved}
use Rattle.sw_parse_lexemes.specs.Words.{word_sort}
use Rattle.sw_parse_table.specs.declared.source.Source.{Source}
use Rattle.sw_parse_table.specs.Sources.{bytes_at, parts_between}
use Rattle.sw_parse_table.specs.Values.{expression}
use Rattle.sw_convert_written.specs.Expressions.{expr_text}
use Rattle.sw_convert_again.specs.Tokens.{tok, Old}
use Rattle.sw_convert_again.specs.Spells.{from_start}
use Rattle.sw_convert_tokens.specs.Written.{AsValue, WrittenAs}
use Rattle.sw_convert_tokens.specs.Values.{WasRead}

-- of a name that is neither a constant nor an operator
abbrev pub WordsAreWritten : Type 0
WordsAreWritten =
    (source : Source) (i : ℕ) (span : Span) → WasRead source → Old source i (just terminals.Word)
    → is_reserved (word_sort (bytes_at source i)) ≡ false
    → WrittenAs (AsValue false) (expr_text (expression (exprs.Word (parts_between source i (suc i) [])) span))
    (tok terminals.Word (from_start source i [] 1) ∷ [])
