-- Urls by themselves: what is written of them is their tokens.
use Rattle.std.specs.Prelude.{◌≡◌, ℕ, suc, Bool, true, false, not, ◌&&◌, ◌==◌, List, [], ◌∷◌}
use Rattle.sw_text.specs.declared.place.Span.{Span}
use Rattle.sw_text_scan.specs.Bytes.{sign, byte}
use Rattle.sw_tree.specs.declared.expr.ExprKind.TheVariants as exprs
use Rattle.sw_parse_terminals.specs.declared.terminal.Terminal.TheVariants as terminals
use Rattle.sw_parse_terminals.specs.Numbers.{just}
use Rattle.sw_parse_table.specs.declared.source.Source.{Source}
use Rattle.sw_parse_table.specs.Sources.{bytes_at, parts_between}
use Rattle.sw_parse_table.specs.Values.{expression}
use Rattle.sw_convert_written.specs.Expressions.{expr_text}
use Rattle.sw_convert_again.specs.Tokens.{tok, Plain, Old}
use Rattle.sw_convert_tokens.specs.Values.{WasRead}
use Rattle.sw_convert_tokens.specs.Written.{AsValue, WrittenAs}

-- no `}` stands there, and no `#{`
abbrev pub is_unbroken : List ℕ → Bool
is_unbroken [] = true
is_unbroken (b ∷ text) =
    not (b == sign "}") && (not ((b == sign "#") && (byte text 0 == sign "{")) && is_unbroken text)

-- of a url without these
abbrev pub UrlsAreWritten : Type 0
UrlsAreWritten =
    (source : Source) (i : ℕ) (span : Span) → WasRead source → Old source i (just terminals.Url)
    → is_unbroken (bytes_at source i) ≡ true
    → WrittenAs (AsValue false) (expr_text (expression (exprs.Url (parts_between source i (suc i) [])) span))
    (tok terminals.Url (Plain 1 (parts_between source i (suc i) [])) ∷ [])
