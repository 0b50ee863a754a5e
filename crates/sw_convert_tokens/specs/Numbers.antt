-- What is written of a number that was read is its tokens.
use Rattle.std.specs.Prelude.{◌≡◌, ℕ, false}
use Rattle.sw_text.specs.declared.place.Span.{Span}
use Rattle.sw_tree.specs.declared.expr.ExprKind.TheVariants as exprs
use Rattle.sw_tree.specs.declared.expr.Number.{Number}
use Rattle.sw_parse_table.specs.declared.source.Source.{Source}
use Rattle.sw_parse_table.specs.Numerals.{numeral}
use Rattle.sw_parse_table.specs.Sources.{bytes_between}
use Rattle.sw_parse_table.specs.Values.{expression}
use Rattle.sw_convert_written.specs.Expressions.{expr_text}
use Rattle.sw_convert_again.specs.Spells.{OldNumber, number_tokens}
use Rattle.sw_convert_tokens.specs.Written.{AsValue, WrittenAs}
use Rattle.sw_convert_tokens.specs.Values.{WasRead}

-- with its unit, behind a sign or not, where its value is read off its tokens
abbrev pub NumbersAreWritten : Type 0
NumbersAreWritten =
    (source : Source) (i j : ℕ) (number : Number) (span : Span) → WasRead source
    → numeral (bytes_between source i j) ≡ number → OldNumber source i j
    → WrittenAs (AsValue false) (expr_text (expression (exprs.Number number) span)) (number_tokens number)
