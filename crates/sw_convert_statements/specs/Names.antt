-- What is written of declarations, custom properties, at-rules of CSS and rules, up to their end or their block, is their
-- tokens, where what is written of their values and texts is.
use Rattle.std.specs.Prelude.{◌≡◌, ℕ, Bool, true, false, not, ◌&&◌, ◌||◌, ◌==◌, List, ◌++◌, Option, codes}
use Rattle.sw_text_scan.specs.Bytes.{sign, byte}
use Rattle.sw_tree.specs.declared.text.Parts.{Parts}
use Rattle.sw_tree.specs.declared.text.Text.{Text}
use Rattle.sw_tree.specs.declared.statement.Statement.{Statement}
use Rattle.sw_tokens.specs.declared.pieces.Before.{Before}
use Rattle.sw_tokens.specs.declared.pieces.Before.TheVariants as befores
use Rattle.sw_parse_terminals.specs.declared.terminal.Terminal.TheVariants as terminals
use Rattle.sw_parse_lexemes.specs.declared.sort.Sort.{Sort}
use Rattle.sw_parse_lexemes.specs.declared.sort.Sort.TheVariants as sorts
use Rattle.sw_parse_lexemes.specs.declared.state.Mode.{Mode}
use Rattle.sw_parse_lexemes.specs.declared.state.Mode.TheVariants as modes
use Rattle.sw_parse_lexemes.specs.Classes.{is_else}
use Rattle.sw_parse_lexemes.specs.Words.{at_sort}
use Rattle.sw_parse_table.specs.declared.source.Source.{Source}
use Rattle.sw_parse_table.specs.Parts.{Part}
use Rattle.sw_parse_table.specs.Sources.{bytes_at, parts_between, text_between}
use Rattle.sw_convert_written.specs.Expressions.{parts_written}
use Rattle.sw_convert_written.specs.Heads.{selector_text}
use Rattle.sw_convert_passing.specs.Written.{Written}
use Rattle.sw_convert_again.specs.Tokens.{Tok, Extent}
use Rattle.sw_convert_again.specs.RawTexts.{SpellsRawText, raw_tokens}
use Rattle.sw_convert_again.specs.Spells.{SpellsWord}
use Rattle.sw_convert_again.specs.Statements.{SpellsStatement, SpellsName, SpellsAtName, SpellsOptionalRaw, at_word, no_raw, some_raw}
use Rattle.sw_convert_again.specs.Statements as spells
use Rattle.sw_convert_tokens.specs.Values.{WasRead}
use Rattle.sw_convert_tokens.specs.Written.{Follows, is_calm, begins_white}
use Rattle.sw_convert_heads_passing.specs.Heads.{is_keyword}
use Rattle.sw_convert_heads_passing.specs.Statements.{begins_else}
use Rattle.sw_convert_texts.specs.Names.{joined, is_mixed, name_inserts}
use Rattle.sw_convert_texts.specs.RawKinds.{raw_known, is_uncut}
use Rattle.sw_convert_texts.specs.AtInserts.{begins_inserted}
use Rattle.sw_convert_texts.specs.RawTexts.{SheetSegment}
use Rattle.sw_convert_texts.specs.RuleTexts.{begins_rule}
use Rattle.sw_convert_values.specs.Values.{goes_on}
use Rattle.sw_convert_statements.specs.Segments.{RuleWritten}
use Rattle.sw_convert_statements.specs.Statements.{FrontIs}
use Rattle.sw_convert_statements.specs.Starts.{may_begin}
use Rattle.sw_convert_statements.specs.Fronts.{ValuesAreKnown}
use Rattle.sw_convert_statements.specs.Texts.{TextsAreKnown}

-- a name that is its tokens, which begin such a statement
pub record IsNamed (Head : List Written → Type 0) (text : List ℕ) (tokens : List Tok) (before : Before) : Type 0 where
  pub passed : List Written
  pub head : Head passed
  pub first : (more : List Written) → begins_else (passed ++ more) ≡ false
  pub segment : SheetSegment before text tokens passed befores.Other (Follows text)

abbrev pub NamedAs : (List Written → Type 0) → List ℕ → List Tok → Type 0
NamedAs Head text tokens = (before : Before) → is_calm before ≡ true → IsNamed Head text tokens before

-- such a raw text before a block begins a rule
abbrev pub rule_known : (source : Source) → {i j : ℕ} {values : List Part} {tokens : List Tok} {extents : List Extent}
    → SpellsRawText source i j values tokens extents → Bool
rule_known source {i} {j} {values} spelt =
    raw_known source modes.Raw spelt && (is_uncut (parts_written (parts_between source i j values)) && begins_rule spelt)

-- where a raw text stands, it is such a text
abbrev pub optional_known : (source : Source) → Mode → {i j : ℕ} {text : Option Text} {tokens : List Tok}
    → SpellsOptionalRaw source i j text tokens → Bool
optional_known source mode no_raw = true
optional_known source mode (some_raw spelt) = raw_known source mode spelt

-- what is written before the block of each such rule of a sheet is its tokens
abbrev pub SelectorsAreKnown : Source → Type 0
SelectorsAreKnown source =
    (i j : ℕ) (values : List Part) (tokens : List Tok) (extents : List Extent)
    → (spelt : SpellsRawText source i j values tokens extents) → rule_known source spelt ≡ true
    → RuleWritten (selector_text (text_between source i j values)) (raw_tokens source i j values extents tokens)

-- ---- names of which it is proved, told by their bytes

-- with a `:` behind it, a name begins with `--`
abbrev pub begins_dashed : List ℕ → Bool
begins_dashed name = (byte (name ++ codes ":") 0 == sign "-") && (byte (name ++ codes ":") 1 == sign "-")

-- one name, or a word with more in it that begins neither with white space nor so
abbrev pub is_property : {source : Source} {i j : ℕ} {parts : Parts} {tokens : List Tok}
    → SpellsWord source i j parts tokens → Bool
is_property {parts = parts} word =
    not (is_mixed word) || (not (begins_white (joined parts)) && not (begins_dashed (joined parts)))

abbrev pub is_custom : (source : Source) {i j : ℕ} {parts : Parts} {tokens : List Tok}
    → SpellsName source terminals.Custom i j parts tokens → Bool
is_custom source {parts = parts} name = begins_dashed (joined parts)

-- `@` and a name that is no keyword, or that begins with a keyword directly before a `#{}`, or one that begins with a
-- `#{}` or with a `-` before one
abbrev pub names_rule : Sort → Bool → Bool
names_rule sorts.AtName inserts = true
names_rule sort inserts = is_keyword sort && (not (is_else sort) && inserts)

abbrev pub is_at_rule : (source : Source) {i j : ℕ} {parts : Parts} {tokens : List Tok}
    → SpellsAtName source i j parts tokens → Bool
is_at_rule source (at_word {i} name) = names_rule (at_sort (bytes_at source i)) (name_inserts name)
is_at_rule source name = begins_inserted name

-- declarations with a value, a block or both, custom properties and at-rules of CSS with such names, and such rules
abbrev pub has_name : {source : Source} {i j : ℕ} {statement : Statement} {tokens : List Tok}
    → SpellsStatement source i j statement tokens → Bool
has_name {source} (spells.declaration_line span text_span word mark inner end) = is_property word
has_name {source} (spells.custom_line span text_span name mark inner end) =
    is_custom source name && optional_known source modes.Custom inner
has_name {source} (spells.at_rule_line span text_span name raw end) =
    is_at_rule source name && optional_known source modes.Raw raw
has_name {source} (spells.at_rule_block span text_span name raw block) =
    is_at_rule source name && optional_known source modes.Raw raw
has_name {source} (spells.properties_block span text_span word mark block) = is_property word
has_name {source} (spells.properties_value_block span text_span word mark inner block) = is_property word
has_name {source} (spells.rule_block span raw block) = rule_known source raw
has_name _ = false

abbrev pub NamedFrontsAreWritten : Type 0
NamedFrontsAreWritten =
    (source : Source) → WasRead source → ValuesAreKnown source → TextsAreKnown modes.Raw source
    → TextsAreKnown modes.Custom source → SelectorsAreKnown source → (i j : ℕ) (statement : Statement)
    (tokens : List Tok) → may_begin source i ≡ true → goes_on source j ≡ false
    → (spelt : SpellsStatement source i j statement tokens) → has_name spelt ≡ true → FrontIs spelt
