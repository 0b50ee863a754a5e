-- Words and names with values in them: what is written of them is their tokens.
use Rattle.std.specs.Prelude.{◌≡◌, ℕ, Bool, true, false, not, ◌&&◌, ◌||◌, ◌==◌, if◌then◌else◌, List, [], ◌∷◌, ◌++◌}
use Rattle.sw_text_scan.specs.Bytes.{sign, byte, is_digit, is_letter, starts_plainly}
use Rattle.sw_text_scan.specs.Words.{is_exponent}
use Rattle.sw_tree.specs.declared.text.Parts.{Parts}
use Rattle.sw_tokens.specs.declared.pieces.Before.{Before}
use Rattle.sw_tokens.specs.declared.pieces.Before.TheVariants as befores
use Rattle.sw_tokens.specs.Tokens.{is_spaced}
use Rattle.sw_parse_terminals.specs.declared.terminal.Terminal.{Terminal}
use Rattle.sw_parse_terminals.specs.declared.terminal.Terminal.TheVariants as terminals
use Rattle.sw_parse_lexemes.specs.declared.sort.Sort.{Sort}
use Rattle.sw_parse_lexemes.specs.declared.state.Mode.{Mode}
use Rattle.sw_parse_lexemes.specs.Classes.{is_name}
use Rattle.sw_parse_lexemes.specs.Words.{at_sort}
use Rattle.sw_parse_table.specs.declared.source.Source.{Source}
use Rattle.sw_parse_table.specs.Parts.{Part}
use Rattle.sw_parse_table.specs.Sources.{bytes_at}
use Rattle.sw_convert_spelling.specs.Spelt.{behind_gap}
use Rattle.sw_convert_written.specs.declared.manner.Manner.TheVariants as manners
use Rattle.sw_convert_written.specs.Pieces.{pieces_text}
use Rattle.sw_convert_written.specs.Expressions.{ends_in_url, parts_written}
use Rattle.sw_convert_passing.specs.Written.{Written, written}
use Rattle.sw_convert_passing.specs.Values.{Word, begins_insert}
use Rattle.sw_convert_passing.specs.Values as values
use Rattle.sw_convert_again.specs.Tokens.{Tok}
use Rattle.sw_convert_again.specs.Spells.{SpellsWord, SpellsRow}
use Rattle.sw_convert_again.specs.Spells as spells
use Rattle.sw_convert_again.specs.Statements.{SpellsName, name_row}
use Rattle.sw_convert_tokens.specs.Joints.{Segment}
use Rattle.sw_convert_tokens.specs.Written.{Follows, is_calm, gap_of}
use Rattle.sw_convert_tokens.specs.Values.{WasRead}
use Rattle.sw_convert_texts.specs.Inserted.{WordHasValues, NameHasValues}

-- the text of a word or a name
abbrev pub joined : Parts → List ℕ
joined parts = pieces_text manners.Joined (parts_written parts)

-- what the tokens of a name are to the pass over tokens, with white space before them or not; and what may stand behind
-- a text
abbrev pub NameShape : Type 1
NameShape = Bool → List Written → Type 0

abbrev pub Followers : Type 1
Followers = List ℕ → List ℕ → Type 0

-- a text is the tokens of a name, behind what stands before it, with a space there or none
pub record IsNameWritten (Shape : NameShape) (Behind : Followers) (text : List ℕ) (tokens : List Tok) (before : Before)
    (spaced : Bool) : Type 0 where
  pub passed : List Written
  pub segment : Segment before (gap_of spaced ++ text) tokens passed befores.Other (Behind text)
  pub told : Shape (is_spaced (behind_gap before (gap_of spaced))) passed

-- the same wherever it stands
abbrev pub NameWritten : NameShape → Followers → List ℕ → List Tok → Type 0
NameWritten Shape Behind text tokens =
    (before : Before) (spaced : Bool) → is_calm (behind_gap before (gap_of spaced)) ≡ true
    → IsNameWritten Shape Behind text tokens before spaced

-- arguments stand behind a name with which no url may begin
pub record Opens (text after : List ℕ) : Type 0 where
  pub paren : (byte after 0 == sign "(") ≡ true
  pub named : ends_in_url text ≡ false

-- ---- words

-- a `#{}` comes first
abbrev pub row_inserts : {source : Source} {part opening : Terminal} {extra i j count : ℕ} {inserts : List Part}
    {tokens : List Tok} → SpellsRow source part opening extra i j inserts count tokens → Bool
row_inserts (spells.row_insert opens inner close row) = true
row_inserts _ = false

-- the word is one token
abbrev pub row_ends : {source : Source} {part opening : Terminal} {extra i j count : ℕ} {inserts : List Part}
    {tokens : List Tok} → SpellsRow source part opening extra i j inserts count tokens → Bool
row_ends spells.row_end = true
row_ends _ = false

-- what a unit consists of, without escapes
abbrev pub in_unit : List ℕ → Bool
in_unit [] = true
in_unit (b ∷ bytes) =
    (starts_plainly b || (is_digit b || ((b == sign "-") && starts_plainly (byte bytes 0)))) && in_unit bytes

-- a unit without escapes; an `e` that it begins with stands before a letter, so that it is no power of ten
abbrev pub is_unit : List ℕ → Bool
is_unit bytes =
    starts_plainly (byte bytes 0)
    && (not (is_exponent (byte bytes 0) && not (is_letter (byte bytes 1))) && in_unit bytes)

abbrev pub digits_and_unit : List ℕ → Bool
digits_and_unit [] = true
digits_and_unit (b ∷ bytes) = if is_digit b then digits_and_unit bytes else is_unit (b ∷ bytes)

-- there is more than a name
abbrev pub is_mixed : {source : Source} {i j : ℕ} {parts : Parts} {tokens : List Tok}
    → SpellsWord source i j parts tokens → Bool
is_mixed (spells.named old row) = not (row_ends row)
is_mixed _ = true

-- it is a word wherever one may stand: in each mode, behind a namespace or not, and before arguments or not
abbrev pub AsWord : Bool → List Written → Type 0
AsWord spaced passed = (mode : Mode) (owned called : Bool) → Word mode spaced owned called passed

-- of a word with `#{}`
abbrev pub WordsWithValuesAreWritten : Type 0
WordsWithValuesAreWritten =
    (source : Source) (i j : ℕ) (parts : Parts) (tokens : List Tok) → WasRead source
    → (spelt : SpellsWord source i j parts tokens) → is_mixed spelt ≡ true
    → WordHasValues spelt → NameWritten AsWord Follows (joined parts) tokens

-- and before the arguments of a call
abbrev pub CalledWordsAreWritten : Type 0
CalledWordsAreWritten =
    (source : Source) (i j : ℕ) (parts : Parts) (tokens : List Tok) → WasRead source
    → (spelt : SpellsWord source i j parts tokens) → is_mixed spelt ≡ true
    → WordHasValues spelt → NameWritten AsWord Opens (joined parts) tokens

-- ---- names that begin with a token of their own

-- a token of a sort and a terminal, and what goes on with it
pub data AsName (fits : Sort → Bool) (terminal : Terminal) : Bool → List Written → Type 0 where
  as_name : {spaced : Bool} {parts : List Written} → (sort : Sort) → fits sort ≡ true → values.Parts parts
      → AsName fits terminal spaced (written sort spaced terminal ∷ parts)

-- a name of a custom property: one that begins with `--` has that sort
abbrev pub CustomNamesAreWritten : Type 0
CustomNamesAreWritten =
    (source : Source) (i j : ℕ) (parts : Parts) (tokens : List Tok) → WasRead source
    → (spelt : SpellsName source terminals.Custom i j parts tokens)
    → NameHasValues spelt
    → NameWritten (AsName is_name terminals.Custom) Follows (joined parts) tokens

-- a `#{}` stands directly behind its first token
abbrev pub name_inserts : {source : Source} {first : Terminal} {i j : ℕ} {parts : Parts} {tokens : List Tok}
    → SpellsName source first i j parts tokens → Bool
name_inserts (name_row old row) = row_inserts row

-- `@` with a name, of this sort, and what goes on with it
pub data AsAtName (sort : Sort) (inserts : Bool) : Bool → List Written → Type 0 where
  as_at : {spaced : Bool} {parts : List Written} → begins_insert parts ≡ inserts → values.Parts parts
      → AsAtName sort inserts spaced (written sort spaced terminals.AtOther ∷ parts)

-- the name of an at-rule that is no `@` alone
abbrev pub AtNamesAreWritten : Type 0
AtNamesAreWritten =
    (source : Source) (i j : ℕ) (parts : Parts) (tokens : List Tok) → WasRead source
    → (spelt : SpellsName source terminals.AtOther i j parts tokens)
    → NameHasValues spelt
    → NameWritten (AsAtName (at_sort (bytes_at source i)) (name_inserts spelt)) Follows (joined parts) tokens
