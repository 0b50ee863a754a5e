-- What is written of a variable that was read is its tokens.
use Rattle.std.specs.Prelude.{ℕ, false, [], ◌∷◌}
use Rattle.sw_text.specs.Names.{dashed}
use Rattle.sw_text.specs.declared.place.Span.{Span}
use Rattle.sw_tree.specs.declared.expr.ExprKind.TheVariants as exprs
use Rattle.sw_parse_terminals.specs.declared.terminal.Terminal.TheVariants as terminals
use Rattle.sw_parse_terminals.specs.Numbers.{just}
use Rattle.sw_parse_table.specs.declared.source.Source.{Source}
use Rattle.sw_parse_table.specs.Sources.{bytes_at}
use Rattle.sw_parse_table.specs.Values.{expression}
use Rattle.sw_convert_written.specs.Expressions.{expr_text}
use Rattle.sw_convert_again.specs.Tokens.{tok, Old, Dashed}
use Rattle.sw_convert_again.specs.Spells.{dollar}
use Rattle.sw_convert_tokens.specs.Written.{AsValue, WrittenAs}
use Rattle.sw_convert_tokens.specs.Values.{WasRead}

-- the name is written as it is kept, with `-` for each `_`; where that is no name, its first `-` is a `_`
abbrev pub VariablesAreWritten : Type 0
VariablesAreWritten =
    (source : Source) (i : ℕ) (span : Span) → WasRead source → Old source i (just terminals.VariableName)
    → WrittenAs (AsValue false) (expr_text (expression (exprs.Variable (dashed (bytes_at source i))) span))
    (dollar ∷ tok terminals.VariableName (Dashed (dashed (bytes_at source i))) ∷ [])
