-- Raw text of which it is proved that it is written as its tokens, told by what was read.
use Rattle.std.specs.Prelude.{◌≡◌, ℕ, ◌+◌, ◌-◌, Bool, true, false, not, ◌&&◌, ◌||◌, ◌==◌, if◌then◌else◌, List, [], ◌∷◌, ◌++◌, length, codes, bytes_eq, Option, Some, None}
use Rattle.std.specs.List.{list_all}
use Rattle.sw_text_scan.specs.declared.runs.Class.TheVariants as classes
use Rattle.sw_text_scan.specs.declared.signs.TheConstants.{END, CARRIAGE_RETURN, LINE_FEED}
use Rattle.sw_text_scan.specs.Bytes.{sign, byte, is_break, is_white, is_digit, is_hex_digit, is_quote, is_name_byte, starts_plainly, opens_at}
use Rattle.sw_text_scan.specs.Runs.{run_end}
use Rattle.sw_text_scan.specs.Words.{is_u, begins_number, unit_start, unit_end}
use Rattle.sw_tokens.specs.declared.pieces.Before.{Before}
use Rattle.sw_tokens.specs.declared.pieces.Before.TheVariants as befores
use Rattle.sw_tokens.specs.Pieces.{has_hex_length}
use Rattle.sw_parse_terminals.specs.declared.terminal.Terminal.{Terminal}
use Rattle.sw_parse_lexemes.specs.declared.sort.Sort.{Sort}
use Rattle.sw_parse_lexemes.specs.declared.sort.Sort.TheVariants as sorts
use Rattle.sw_parse_lexemes.specs.declared.state.Mode.{Mode}
use Rattle.sw_parse_lexemes.specs.Ahead.{sort_at}
use Rattle.sw_parse_lexemes.specs.Brackets.{is_custom}
use Rattle.sw_parse_lexemes.specs.Classes.{is_name}
use Rattle.sw_parse_lexemes.specs.Plains.{plains_of}
use Rattle.sw_parse_table.specs.declared.source.Source.{Source}
use Rattle.sw_parse_table.specs.Parts.{Part}
use Rattle.sw_parse_table.specs.Sources.{bytes, from_at, to_at, bytes_from, bytes_at, is_commented, gap_at, parts_between, text_between}
use Rattle.sw_convert_spelling.specs.Spelt.{behind_gap}
use Rattle.sw_convert_written.specs.Escapes.{ends_unclosed, ends_open}
use Rattle.sw_convert_written.specs.Expressions.{is_url, expr_text, parts_written}
use Rattle.sw_convert_written.specs.Heads.{seamed_text}
use Rattle.sw_convert_written.specs.Pieces.{Written}
use Rattle.sw_convert_written.specs.Rules.{has_more, is_cut}
use Rattle.sw_convert_again.specs.Tokens.{Tok, Extent, Old}
use Rattle.sw_convert_tokens.specs.Written.{is_stop}
use Rattle.sw_convert_tokens.specs.Values.{WasRead}
use Rattle.sw_convert_again.specs.RawTexts.{Brackets, parens, squares, braces, SpellsRawItem, SpellsRawText, raw_token, raw_insert, raw_brackets, raw_end, raw_more}
use Rattle.sw_convert_texts.specs.Inserted.{RawTextHasValues}
use Rattle.sw_convert_texts.specs.Names.{digits_and_unit}
use Rattle.sw_convert_texts.specs.RawTexts.{IsText, IsSelector}
use Rattle.sw_convert_texts.specs.Urls.{is_unbroken}

-- ---- what is written of it

-- the white space before the token at a place, without the comments there
abbrev pub gap_before : Source → ℕ → List ℕ
gap_before source i =
    if is_commented source i then gap_at source i else bytes_from source (to_at source (i - 1)) (from_at source i)

-- an item, and items with the white space before each, where this stands behind them
abbrev mutual
  pub item_text : (source : Source) {i k : ℕ} {parts : List Part} {tokens : List Tok} {extents : List Extent}
      → SpellsRawItem source i k parts tokens extents → List ℕ → List ℕ
  item_text source (raw_token {i = i} old) behind = bytes_at source i ++ behind
  item_text source (raw_insert {value = value} opens inner close) behind =
      codes "#{" ++ (expr_text value ++ (codes "}" ++ behind))
  item_text source (raw_brackets {i = i} {c = c} kind opens text close) behind =
      bytes_at source i ++ row_text source text (gap_before source c ++ (bytes_at source c ++ behind))

  pub row_text : (source : Source) {i j : ℕ} {parts : List Part} {tokens : List Tok} {extents : List Extent}
      → SpellsRawText source i j parts tokens extents → List ℕ → List ℕ
  row_text source raw_end behind = behind
  row_text source (raw_more {i = i} item text) behind =
      gap_before source i ++ item_text source item (row_text source text behind)

-- ---- tokens

-- the sort of a token that was read
abbrev pub sort_there : {source : Source} {i : ℕ} {set : List ℕ} → Old source i set → Sort
sort_there {source} old = sort_at (plains_of (bytes source) source.tokens.now.list) old.lexeme.token

-- signs that are text, by their bytes
abbrev pub sign_text : Sort → List ℕ
sign_text sorts.Colon = codes ":"
sign_text sorts.Comma = codes ","
sign_text sorts.Dot = codes "."
sign_text sorts.Ellipsis = codes "..."
sign_text sorts.Hash = codes "#"
sign_text sorts.Dollar = codes "$"
sign_text sorts.Ampersand = codes "&"
sign_text sorts.Plus = codes "+"
sign_text sorts.Minus = codes "-"
sign_text sorts.Star = codes "*"
sign_text sorts.Slash = codes "/"
sign_text sorts.Percent = codes "%"
sign_text sorts.Exclamation = codes "!"
sign_text sorts.Equals = codes "="
sign_text sorts.EqualsEquals = codes "=="
sign_text sorts.NotEquals = codes "!="
sign_text sorts.Less = codes "<"
sign_text sorts.LessEquals = codes "<="
sign_text sorts.Greater = codes ">"
sign_text sorts.GreaterEquals = codes ">="
sign_text _ = []

abbrev pub is_some : List ℕ → Bool
is_some [] = false
is_some (b ∷ text) = true

-- a sign doesn't join the byte behind it; no `/` is the last, since a comment may stand behind a text
abbrev pub sign_stays : Sort → ℕ → Bool
sign_stays sorts.Dot b = not (is_digit b || (b == sign "."))
sign_stays sorts.Hash b = not (b == sign "{")
sign_stays sorts.Minus b = not (starts_plainly b || ((b == sign "-") || (b == sign "\\")))
sign_stays sorts.Slash b = not ((b == sign "/") || ((b == sign "*") || (b == END)))
sign_stays sorts.Exclamation b = not (b == sign "=")
sign_stays sorts.Equals b = not (b == sign "=")
sign_stays sorts.Less b = not (b == sign "=")
sign_stays sorts.Greater b = not (b == sign "=")
sign_stays _ b = true

-- signs that are no other token
abbrev pub is_other : List ℕ → Bool
is_other text = bytes_eq text (codes "~") || (bytes_eq text (codes "|") || bytes_eq text (codes "^"))

-- what goes on with a name
abbrev pub goes_on : ℕ → Bool
goes_on b = is_name_byte b || (b == sign "\\")

-- an escape is open at the end of a name only before what is no white space
abbrev pub escape_stays : List ℕ → ℕ → Bool
escape_stays text b = not (ends_unclosed text) || not ((b == END) || is_white b)

-- a name doesn't go on with the byte behind it, and begins no range and no url with it
abbrev pub name_stays : List ℕ → ℕ → Bool
name_stays text b =
    escape_stays text b
    && (not (goes_on b)
    && (not ((byte text (length text - 1) == CARRIAGE_RETURN) && (b == LINE_FEED))
    && (not ((b == sign "+") && ((length text == 1) && is_u (byte text 0)))
    && not ((b == sign "(") && is_url text))))

-- nor one before a `(` and a quote or a `$`
abbrev pub calls_url : List ℕ → List ℕ → Bool
calls_url text (b ∷ c ∷ behind) = is_url text && ((b == sign "(") && (is_quote c || (c == sign "$")))
calls_url text _ = false

-- `@` with a name
abbrev pub is_at : Sort → Bool
is_at sorts.AtUse = true
is_at sorts.AtForward = true
is_at sorts.AtFunction = true
is_at sorts.AtMixin = true
is_at sorts.AtInclude = true
is_at sorts.AtContent = true
is_at sorts.AtReturn = true
is_at sorts.AtWarn = true
is_at sorts.AtDebug = true
is_at sorts.AtError = true
is_at sorts.AtIf = true
is_at sorts.AtElse = true
is_at sorts.AtElseIf = true
is_at sorts.AtEach = true
is_at sorts.AtFor = true
is_at sorts.AtWhile = true
is_at sorts.AtMedia = true
is_at sorts.AtSupports = true
is_at sorts.AtRoot = true
is_at sorts.AtCharset = true
is_at sorts.AtImport = true
is_at sorts.AtExtend = true
is_at sorts.AtName = true
is_at _ = false

-- a colour
abbrev pub is_colour : List ℕ → Bool
is_colour text = list_all is_hex_digit text && has_hex_length (length text)

-- where the text in a string ends
abbrev pub string_end : List ℕ → ℕ
string_end text = run_end (classes.SheetText (byte text 0)) text 1

-- a whole string
abbrev pub is_string : List ℕ → Bool
is_string text =
    is_quote (byte text 0)
    && ((byte text (string_end text) == byte text 0) && (string_end text + 1 == length text))

-- digits, with a unit or without; and any number without escapes
abbrev pub is_digits : List ℕ → Bool
is_digits text = is_digit (byte text 0) && digits_and_unit text

abbrev pub is_unescaped : ℕ → Bool
is_unescaped b = not (b == sign "\\")

abbrev pub is_number_text : List ℕ → Bool
is_number_text text =
    begins_number text 0 && ((unit_end text (unit_start text 0) == length text) && list_all is_unescaped text)

abbrev pub ends_number : List ℕ → Bool
ends_number [] = true
ends_number (b ∷ behind) = is_stop b

-- digits with a `%`
abbrev pub percent_behind : List ℕ → Bool
percent_behind [] = false
percent_behind (b ∷ text) = if is_digit b then percent_behind text else ((b == sign "%") && not (is_some text))

abbrev pub is_percent : List ℕ → Bool
is_percent text = is_digit (byte text 0) && percent_behind text

-- a number doesn't go on with what stands behind it
abbrev pub number_stays : List ℕ → List ℕ → Bool
number_stays text behind =
    if is_digits text then not (goes_on (byte behind 0) || ((byte behind 0 == sign "%") || (byte behind 0 == sign ".")))
    else (is_percent text || (is_number_text text && ends_number behind))

-- nor does an `@` with a name
abbrev pub at_stays : List ℕ → List ℕ → Bool
at_stays text behind = not (ends_unclosed text) && ends_number behind

abbrev pub told_by : Sort → List ℕ → List ℕ → Bool
told_by sorts.Url text behind = is_unbroken text
told_by sorts.Range text behind = ends_number behind
told_by sorts.Quoted text behind = is_string text
told_by sorts.Unnamed text behind = is_string text
told_by sorts.Digits text behind = number_stays text behind
told_by sorts.Number text behind = number_stays text behind
told_by sorts.Hex text behind = is_colour text && not (goes_on (byte behind 0))
told_by sorts.Other text behind = is_other text
told_by sort text behind = bytes_eq text (sign_text sort) && sign_stays sort (byte behind 0)

-- a token stays what it is before this text
abbrev pub token_stays : Sort → List ℕ → List ℕ → Bool
token_stays sort text behind =
    is_some text
    && (if is_name sort then name_stays text (byte behind 0) || calls_url text behind
    else (if is_at sort then at_stays text behind else told_by sort text behind))

abbrev pub is_hex : Sort → Bool
is_hex sorts.Hex = true
is_hex _ = false

abbrev pub is_equals : Sort → Bool
is_equals sorts.Equals = true
is_equals _ = false

-- behind a `#` stand names and colours alone, and no colour elsewhere; behind a `$` names and `=`
abbrev pub stands_behind : Before → Sort → List ℕ → Bool
stands_behind befores.Hash sort text = if is_name sort then not (is_colour text) else is_hex sort
stands_behind befores.Dollar sort text = is_name sort || is_equals sort
stands_behind _ sort text = not (is_hex sort)

abbrev pub sort_behind : Sort → Before
sort_behind sorts.Hash = befores.Hash
sort_behind sorts.Dollar = befores.Dollar
sort_behind _ = befores.Other

-- ---- strings with `#{}`

-- a byte of text in a string by this quote, without escapes
abbrev pub holds : ℕ → ℕ → Bool
holds q b = not ((b == q) || ((b == sign "\\") || (is_break b || (b == END))))

-- such text
abbrev pub is_held : ℕ → List ℕ → Bool
is_held q [] = true
is_held q (b ∷ text) = (holds q b && not ((b == sign "#") && (byte text 0 == sign "{"))) && is_held q text

-- a `#{` stands behind such text, or at the begin
abbrev pub reaches_insert : ℕ → List ℕ → Bool
reaches_insert q [] = false
reaches_insert q (b ∷ text) = ((b == sign "#") && (byte text 0 == sign "{")) || (holds q b && reaches_insert q text)

-- the end of the string, or a `#{`
abbrev pub ends_held : ℕ → List ℕ → Bool
ends_held q behind = (byte behind 0 == q) || opens_at behind 0

abbrev pub is_opening : Sort → Bool
is_opening sorts.Template = true
is_opening _ = false

-- the quote before one
abbrev pub opens_string : List ℕ → List ℕ → Bool
opens_string text behind =
    bytes_eq text (byte text 0 ∷ []) && (is_quote (byte text 0) && reaches_insert (byte text 0) behind)

-- a token in one
abbrev pub told_in : ℕ → Sort → List ℕ → List ℕ → Bool
told_in q sorts.Text text behind = is_some text && (is_held q text && ends_held q behind)
told_in q sorts.TemplateEnd text behind = bytes_eq text (q ∷ [])
told_in q _ text behind = false

-- a token where a string by this quote is open, or none
abbrev pub token_known : Option ℕ → Sort → Before → List ℕ → List ℕ → Bool
token_known None sort before text behind =
    if is_opening sort then opens_string text behind
    else (token_stays sort text behind && stands_behind before sort text)
token_known (Some q) sort before text behind = is_quote q && told_in q sort text behind

-- which string is open behind it
abbrev pub open_behind : Sort → List ℕ → Option ℕ → Option ℕ
open_behind sorts.Template text quotes = Some (byte text 0)
open_behind sorts.TemplateEnd text quotes = None
open_behind _ text quotes = quotes

abbrev pub is_closed : Option ℕ → Bool
is_closed None = true
is_closed (Some q) = false

-- ---- texts

abbrev pub opening_text : {opening closing : Terminal} → Brackets opening closing → List ℕ
opening_text parens = codes "("
opening_text squares = codes "["
opening_text braces = codes "{"

abbrev pub closing_text : {opening closing : Terminal} → Brackets opening closing → List ℕ
closing_text parens = codes ")"
closing_text squares = codes "]"
closing_text braces = codes "}"

-- braces are brackets in a custom property alone
abbrev pub is_bracketed : Mode → {opening closing : Terminal} → Brackets opening closing → Bool
is_bracketed mode braces = is_custom mode
is_bracketed mode _ = true

-- white space or nothing stands between a token and the one before, or a comment beside white space
abbrev pub is_beside : Source → ℕ → Bool
is_beside source i = not (is_commented source i) || is_some (gap_before source i)

-- in a string nothing does
abbrev pub is_next : Source → Option ℕ → ℕ → Bool
is_next source quotes i = is_beside source i && (is_closed quotes || not (is_some (gap_before source i)))

-- what stands directly before the token behind an item
abbrev pub leaves : {source : Source} {i k : ℕ} {parts : List Part} {tokens : List Tok} {extents : List Extent}
    → SpellsRawItem source i k parts tokens extents → Before
leaves (raw_token old) = sort_behind (sort_there old)
leaves _ = befores.Other

-- the string that is open behind an item
abbrev pub string_behind : {source : Source} {i k : ℕ} {parts : List Part} {tokens : List Tok} {extents : List Extent}
    → SpellsRawItem source i k parts tokens extents → Option ℕ → Option ℕ
string_behind {source} (raw_token {i = i} old) quotes = open_behind (sort_there old) (bytes_at source i) quotes
string_behind _ quotes = quotes

-- an item, and items, where this string is open and behind what stands before them, and behind which this is written:
-- tokens that stay what they are there, strings with `#{}`, values in `#{}`, and brackets
abbrev mutual
  pub item_known : (source : Source) → Mode → {i k : ℕ} {parts : List Part} {tokens : List Tok} {extents : List Extent}
      → SpellsRawItem source i k parts tokens extents → Option ℕ → Before → List ℕ → Bool
  item_known source mode (raw_token {i = i} old) quotes before behind =
      token_known quotes (sort_there old) before (bytes_at source i) behind
  item_known source mode (raw_insert opens inner close) None before behind = true
  item_known source mode (raw_insert opens inner close) (Some q) before behind = is_quote q
  item_known source mode (raw_brackets kind opens text close) (Some q) before behind = false
  item_known source mode (raw_brackets {i = i} {c = c} kind opens text close) None before behind =
      (is_bracketed mode kind
      && (bytes_eq (bytes_at source i) (opening_text kind) && bytes_eq (bytes_at source c) (closing_text kind)))
      && (is_beside source c
      && row_known source mode text None befores.Other (gap_before source c ++ (bytes_at source c ++ behind)))

  pub row_known : (source : Source) → Mode → {i j : ℕ} {parts : List Part} {tokens : List Tok} {extents : List Extent}
      → SpellsRawText source i j parts tokens extents → Option ℕ → Before → List ℕ → Bool
  row_known source mode raw_end quotes start behind = is_closed quotes
  row_known source mode (raw_more {i = i} item text) quotes start behind =
      is_next source quotes i
      && (item_known source mode item quotes (behind_gap start (gap_before source i)) (row_text source text behind)
      && row_known source mode text (string_behind item quotes) (leaves item) behind)

-- a whole text isn't empty; before its first token anything may stand but a `#` or a `$`
abbrev pub raw_stays : (source : Source) → Mode → {i j : ℕ} {parts : List Part} {tokens : List Tok} {extents : List Extent}
    → SpellsRawText source i j parts tokens extents → Bool
raw_stays source mode raw_end = false
raw_stays source mode (raw_more item text) =
    item_known source mode item None befores.Other (row_text source text [])
    && row_known source mode text (string_behind item None) (leaves item) []

-- and no `\` at its end would escape what stands behind it
abbrev pub raw_known : (source : Source) → Mode → {i j : ℕ} {values : List Part} {tokens : List Tok} {extents : List Extent}
    → SpellsRawText source i j values tokens extents → Bool
raw_known source mode {i} {j} {values} spelt =
    raw_stays source mode spelt && not (ends_open (seamed_text (text_between source i j values)))

-- what is written of such a text is its tokens, where this is so of the values in it
abbrev pub RawTextsAreWritten : Type 0
RawTextsAreWritten =
    (source : Source) (mode : Mode) (i j : ℕ) (values : List Part) (tokens : List Tok) (extents : List Extent) → WasRead source
    → (spelt : SpellsRawText source i j values tokens extents) → raw_known source mode spelt ≡ true → RawTextHasValues spelt
    → IsText source mode i j values extents tokens

-- no empty comment is needed behind the first piece of what stands before the block of a rule
abbrev pub is_uncut : List Written → Bool
is_uncut [] = true
is_uncut (piece ∷ pieces) = not (has_more pieces && is_cut piece (piece ∷ pieces))

-- the same of what stands before the block of a rule
abbrev pub SelectorsAreWritten : Type 0
SelectorsAreWritten =
    (source : Source) (mode : Mode) (i j : ℕ) (values : List Part) (tokens : List Tok) (extents : List Extent) → WasRead source
    → (spelt : SpellsRawText source i j values tokens extents) → raw_known source mode spelt ≡ true
    → is_uncut (parts_written (parts_between source i j values)) ≡ true → RawTextHasValues spelt
    → IsSelector source mode i j values extents tokens
