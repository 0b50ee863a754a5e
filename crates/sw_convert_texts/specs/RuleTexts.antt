-- What stands before the block of a rule: to the pass over tokens it begins one.
use Rattle.std.specs.Prelude.{◌≡◌, ℕ, Bool, true, false, not, ◌&&◌, ◌||◌, if◌then◌else◌, List, [], ◌∷◌, ◌++◌}
use Rattle.sw_tokens.specs.declared.pieces.Before.{Before}
use Rattle.sw_parse_terminals.specs.declared.terminal.Terminal.{Terminal}
use Rattle.sw_parse_lexemes.specs.declared.sort.Sort.{Sort}
use Rattle.sw_parse_lexemes.specs.declared.sort.Sort.TheVariants as sorts
use Rattle.sw_parse_lexemes.specs.declared.state.Mode.TheVariants as modes
use Rattle.sw_parse_lexemes.specs.Classes.{is_name, is_number, goes_on, same}
use Rattle.sw_parse_table.specs.declared.source.Source.{Source}
use Rattle.sw_parse_table.specs.Parts.{Part}
use Rattle.sw_parse_table.specs.Sources.{bytes_at, parts_between, text_between}
use Rattle.sw_convert_written.specs.Heads.{selector_text}
use Rattle.sw_convert_written.specs.Expressions.{parts_written}
use Rattle.sw_convert_passing.specs.Written.{Written}
use Rattle.sw_convert_passing.specs.Values.{seam}
use Rattle.sw_convert_heads_passing.specs.RawTexts.{RawText, Outside}
use Rattle.sw_convert_heads_passing.specs.Blocks.{open_sign}
use Rattle.sw_convert_heads_passing.specs.Rules.{is_rule}
use Rattle.sw_convert_again.specs.Tokens.{Tok, Extent}
use Rattle.sw_convert_again.specs.RawTexts.{Brackets, parens, squares, braces, SpellsRawItem, SpellsRawText, raw_token, raw_insert, raw_brackets, raw_end, raw_more, raw_tokens}
use Rattle.sw_convert_tokens.specs.Values.{WasRead}
use Rattle.sw_convert_tokens.specs.Written.{is_calm}
use Rattle.sw_convert_texts.specs.Inserted.{RawTextHasValues}
use Rattle.sw_convert_texts.specs.RawTexts.{SheetSegment, EndsText}
use Rattle.sw_convert_texts.specs.RawKinds.{gap_before, sort_there, sign_text, is_some, is_digits, raw_known, is_uncut}

-- ---- what it begins with

abbrev pub bracket_sort : {opening closing : Terminal} → Brackets opening closing → Sort
bracket_sort parens = sorts.OpenParen
bracket_sort squares = sorts.OpenBracket
bracket_sort braces = sorts.OpenBrace

-- the sort of an item's first token
abbrev pub item_sort : {source : Source} {i k : ℕ} {parts : List Part} {tokens : List Tok} {extents : List Extent}
    → SpellsRawItem source i k parts tokens extents → Sort
item_sort (raw_token old) = sort_there old
item_sort (raw_insert opens inner close) = sorts.OpenInsert
item_sort (raw_brackets kind opens text close) = bracket_sort kind

-- names, colours, urls, unicode ranges, signs and brackets
abbrev pub is_begin : Sort → Bool
is_begin sorts.Other = true
is_begin sorts.Hex = true
is_begin sorts.Url = true
is_begin sorts.Range = true
is_begin sorts.OpenInsert = true
is_begin sorts.OpenParen = true
is_begin sorts.OpenBracket = true
is_begin sorts.OpenBrace = true
is_begin sort = is_name sort || is_some (sign_text sort)

-- numbers and strings
abbrev pub is_literal : Sort → Bool
is_literal sorts.Digits = true
is_literal sorts.Number = true
is_literal sorts.Quoted = true
is_literal sorts.Unnamed = true
is_literal _ = false

-- a token with which a selector may begin, but no word and no other statement
abbrev pub is_lead : Sort → Bool
is_lead sorts.OpenInsert = false
is_lead sorts.Minus = false
is_lead sorts.Dollar = false
is_lead sort = is_literal sort || (is_begin sort && not (is_name sort))

-- a name that doesn't begin with `--`
abbrev pub is_type : Sort → Bool
is_type sorts.DashedName = false
is_type sort = is_name sort

-- a token that is digits with a unit or without
abbrev pub item_digits : {source : Source} {i k : ℕ} {parts : List Part} {tokens : List Tok} {extents : List Extent}
    → SpellsRawItem source i k parts tokens extents → Bool
item_digits {source} (raw_token {i = i} old) = is_number (sort_there old) && is_digits (bytes_at source i)
item_digits _ = false

-- what goes on with a word where it stands directly behind it
abbrev pub is_part : {source : Source} {i k : ℕ} {parts : List Part} {tokens : List Tok} {extents : List Extent}
    → SpellsRawItem source i k parts tokens extents → Bool
is_part item =
    item_digits item
    || (is_name (item_sort item) || (same (item_sort item) sorts.Minus || same (item_sort item) sorts.OpenInsert))

-- a token that ends a word, with white space before it or not
abbrev pub ends_word : Bool → Sort → Bool
ends_word spaced sort =
    if is_literal sort then spaced
    else (is_begin sort && (spaced || not (goes_on sort)))

-- behind a `.` that stands directly behind a name: something else than a variable
abbrev pub goes_as_class : {source : Source} {i j : ℕ} {parts : List Part} {tokens : List Tok} {extents : List Extent}
    → SpellsRawText source i j parts tokens extents → Bool
goes_as_class raw_end = true
goes_as_class (raw_more item text) = not (same (item_sort item) sorts.Dollar)

-- directly behind a `:`: a name, a second `:` or a `#{`
abbrev pub goes_as_pseudo : {source : Source} {i j : ℕ} {parts : List Part} {tokens : List Tok} {extents : List Extent}
    → SpellsRawText source i j parts tokens extents → Bool
goes_as_pseudo raw_end = false
goes_as_pseudo {source} (raw_more {i = i} item text) =
    not (is_some (gap_before source i))
    && (is_name (item_sort item) || (same (item_sort item) sorts.OpenInsert || same (item_sort item) sorts.Colon))

-- what stands behind a word that goes on makes no declaration of it, and where it begins with `--` no custom property
abbrev pub goes_as_rule : {source : Source} {i j : ℕ} {parts : List Part} {tokens : List Tok} {extents : List Extent}
    → SpellsRawText source i j parts tokens extents → Bool → Bool
goes_as_rule raw_end dashed = true
goes_as_rule {source} (raw_more {i = i} item text) dashed =
    if not (is_some (gap_before source i)) && is_part item then goes_as_rule text dashed
    else (ends_word (is_some (gap_before source i)) (item_sort item)
    && (not (same (item_sort item) sorts.Colon) || (not dashed && goes_as_pseudo text)))

-- and behind a name with which the text begins
abbrev pub goes_behind_name : {source : Source} {i j : ℕ} {parts : List Part} {tokens : List Tok} {extents : List Extent}
    → SpellsRawText source i j parts tokens extents → Bool
goes_behind_name raw_end = true
goes_behind_name {source} (raw_more {i = i} item text) =
    if not (is_some (gap_before source i)) && same (item_sort item) sorts.Dot then goes_as_class text
    else goes_as_rule (raw_more item text) false

abbrev pub begins_as : {source : Source} {i j : ℕ} {parts : List Part} {tokens : List Tok} {extents : List Extent}
    → Sort → SpellsRawText source i j parts tokens extents → Bool
begins_as sorts.DashedName text = goes_as_rule text true
begins_as sorts.OpenInsert text = goes_as_rule text false
begins_as sorts.Minus text = goes_as_rule text false
begins_as sort text = is_lead sort || (is_name sort && goes_behind_name text)

abbrev pub begins_rule : {source : Source} {i j : ℕ} {parts : List Part} {tokens : List Tok} {extents : List Extent}
    → SpellsRawText source i j parts tokens extents → Bool
begins_rule raw_end = false
begins_rule (raw_more item text) = begins_as (item_sort item) text

-- ---- what it is written as

-- the comment that an escape at its end needs before the block
abbrev pub seams_of : Bool → List Written
seams_of unclosed = if unclosed then seam ∷ [] else []

pub record IsRuleText (text : List ℕ) (tokens : List Tok) (before : Before) : Type 0 where
  pub passed : List Written
  pub raw : (unclosed : Bool) → RawText modes.Raw Outside (passed ++ seams_of unclosed)
  pub rule : (unclosed : Bool) → is_rule ((passed ++ seams_of unclosed) ++ open_sign true ∷ []) ≡ true
  pub end : Before
  pub segment : SheetSegment before text tokens passed end (EndsText text)

-- what is written before the block of a rule is its tokens, which begin a rule
abbrev pub RuleTextsAreWritten : Type 0
RuleTextsAreWritten =
    (source : Source) (i j : ℕ) (values : List Part) (tokens : List Tok) (extents : List Extent) → WasRead source
    → (spelt : SpellsRawText source i j values tokens extents) → raw_known source modes.Raw spelt ≡ true
    → is_uncut (parts_written (parts_between source i j values)) ≡ true → begins_rule spelt ≡ true
    → RawTextHasValues spelt → (before : Before) → is_calm before ≡ true
    → IsRuleText (selector_text (text_between source i j values)) (raw_tokens source i j values extents tokens) before
