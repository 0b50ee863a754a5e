-- What is written of each value that was read is its tokens, where that of some kinds in it is.
use Rattle.std.specs.Prelude.{◌≡◌, ℕ, zero, suc, Bool, true, false, if◌then◌else◌, not, ◌&&◌, ◌||◌, List, [], ◌∷◌, Option, Some, None}
use Rattle.sw_tree.specs.declared.expr.Argument.{Argument}
use Rattle.sw_tree.specs.declared.expr.Expr.{Expr}
use Rattle.sw_tree.specs.declared.text.Parts.{Parts}
use Rattle.sw_parse_terminals.specs.declared.terminal.Terminal.{Terminal}
use Rattle.sw_parse_terminals.specs.declared.terminal.Terminal.TheVariants as terminals
use Rattle.sw_parse_terminals.specs.declared.lexeme.Lexeme.{Lexeme}
use Rattle.sw_parse_lexemes.specs.Classes.{is_reserved}
use Rattle.sw_parse_lexemes.specs.Words.{word_sort}
use Rattle.sw_parse_table.specs.declared.source.Source.{Source}
use Rattle.sw_parse_table.specs.Sources.{lexeme_at, bytes_at}
use Rattle.sw_convert_written.specs.Expressions.{is_url, ends_in_url, expr_text}
use Rattle.sw_convert_again.specs.Tokens.{Tok}
use Rattle.sw_convert_again.specs.Spells.{Spells, SpellsPlain, SpellsWord}
use Rattle.sw_convert_again.specs.Spells as spells
use Rattle.sw_convert_tokens.specs.Written.{AsValue, AsRow, WrittenAs}
use Rattle.sw_convert_tokens.specs.Values.{WasRead}
use Rattle.sw_convert_tokens.specs.Calls.{is_unspecial}
use Rattle.sw_convert_texts.specs.Names.{joined, is_mixed}
use Rattle.sw_convert_texts.specs.Specials.{special_known}
use Rattle.sw_convert_texts.specs.Urls.{is_unbroken}

-- ---- where a value stands

-- the `.` of a namespace, and a `!`: what stands behind them is no value by itself
abbrev pub leads : Terminal → Bool
leads terminals.OwnerDot = true
leads terminals.Bang = true
leads terminals.Ending = true
leads _ = false

abbrev pub leads_in : Option Lexeme → Bool
leads_in None = false
leads_in (Some lexeme) = leads lexeme.terminal

-- such a token stands before a place
abbrev pub is_led : Source → ℕ → Bool
is_led source zero = false
is_led source (suc at) = leads_in (lexeme_at source at)

-- a `#{}` goes on with a word
abbrev pub is_part_insert : Terminal → Bool
is_part_insert terminals.PartInsert = true
is_part_insert _ = false

abbrev pub part_in : Option Lexeme → Bool
part_in None = false
part_in (Some lexeme) = is_part_insert lexeme.terminal

abbrev pub goes_on : Source → ℕ → Bool
goes_on source at = part_in (lexeme_at source at)

-- ---- single values

-- one name that is no url: by itself that of no special function, and behind a namespace that of no constant or operator,
-- which the text of a special function has there
abbrev pub is_name_called : (source : Source) (owned : Bool) {i j : ℕ} {parts : Parts} {tokens : List Tok}
    → SpellsWord source i j parts tokens → Bool
is_name_called source owned (spells.named {i} old spells.row_end) =
    not (owned && is_reserved (word_sort (bytes_at source i)))
    && (is_unspecial owned (bytes_at source i) && not (ends_in_url (bytes_at source i)))
is_name_called source owned _ = false

-- such a name, or a word with `#{}`, behind a namespace or not
abbrev pub is_called : (source : Source) (owned : Bool) {i j : ℕ} {parts : Parts} {tokens : List Tok}
    → SpellsWord source i j parts tokens → Bool
is_called source owned {parts = parts} word =
    if is_mixed word then not (ends_in_url (joined parts)) else is_name_called source owned word

abbrev pub has_arguments : List Argument → Bool
has_arguments [] = false
has_arguments (argument ∷ arguments) = true

-- `url` with arguments
abbrev pub is_url_called : (source : Source) (arguments : List Argument) {i j : ℕ} {parts : Parts} {tokens : List Tok}
    → SpellsWord source i j parts tokens → Bool
is_url_called source arguments (spells.named {i} old spells.row_end) =
    is_url (bytes_at source i) && has_arguments arguments
is_url_called source arguments _ = false

-- a call of one of these
abbrev pub is_call : (source : Source) (owned : Bool) (arguments : List Argument) {i j : ℕ} {parts : Parts}
    {tokens : List Tok} → SpellsWord source i j parts tokens → Bool
is_call source owned arguments name = is_called source owned name || is_url_called source arguments name

-- urls with `#{}`, or with a `}`, special functions but for those that are known, and calls by other names
abbrev pub is_single : {source : Source} {i j : ℕ} {value : Expr} {tokens : List Tok} → Spells source i j value tokens
    → Bool
is_single {source = source} (spells.url {i} span old) = not (is_unbroken (bytes_at source i))
is_single (spells.url_template span opens inner close) = true
is_single {source = source} (spells.special span name opens inner close) = not (special_known source name inner)
is_single {source = source} (spells.call {args = arguments} span name_span name opens inner close) =
    not (is_call source false arguments name)
is_single {source = source} (spells.owned_call {args = arguments} span name_span owner dot name opens inner close) =
    not (is_call source true arguments name)
is_single _ = false

-- what is written of each of these that stood in a sheet, whole, is its tokens
abbrev pub SinglesAreWritten : Source → Type 0
SinglesAreWritten source =
    (i j : ℕ) (value : Expr) (tokens : List Tok) (spelt : Spells source i j value tokens) → is_led source i ≡ false
    → goes_on source j ≡ false → is_single spelt ≡ true → WrittenAs (AsValue false) (expr_text value) tokens

-- what is written of any value is its tokens
abbrev pub ValuesAreWritten : Type 0
ValuesAreWritten =
    (source : Source) → WasRead source → SinglesAreWritten source → (i j : ℕ) (value : Expr) (tokens : List Tok)
    → is_led source i ≡ false → goes_on source j ≡ false → Spells source i j value tokens
    → WrittenAs AsRow (expr_text value) tokens

-- of one that is no list with commas and without brackets, as those of one value
abbrev pub PlainsAreWritten : Type 0
PlainsAreWritten =
    (source : Source) → WasRead source → SinglesAreWritten source → (i j : ℕ) (value : Expr) (tokens : List Tok)
    → is_led source i ≡ false → goes_on source j ≡ false → SpellsPlain source i j value tokens
    → (signed : Bool) × WrittenAs (AsValue signed) (expr_text value) tokens
