-- What decides how a token is read, said of the lexemes of a text: the terminal before it, white space before it, and
-- the token directly behind it.
use Rattle.std.specs.Prelude.{◌≡◌, ◌⊎◌, ℕ, ◌+◌, Bool, true, false, not, ◌&&◌, List, [], ◌∷◌}
use Rattle.sw_parse_terminals.specs.declared.terminal.Terminal.{Terminal}
use Rattle.sw_parse_terminals.specs.declared.terminal.Terminal.TheVariants as terminals
use Rattle.sw_parse_terminals.specs.declared.lexeme.Lexeme.{Lexeme}
use Rattle.sw_tokens.specs.declared.token.Token.{Token}
use Rattle.sw_parse_lexemes.specs.declared.sort.Sort.{Sort}
use Rattle.sw_parse_lexemes.specs.declared.sort.Sort.TheVariants as sorts
use Rattle.sw_parse_lexemes.specs.declared.plain.Plain.{Plain}
use Rattle.sw_parse_lexemes.specs.Classes.{is_name, same}
use Rattle.sw_parse_lexemes.specs.Ahead.{sort_at, spaced_at, is_direct, number_direct, code_from, opens_block, begins_word, behind_first}
use Rattle.sw_parse_lexemes.specs.Plains.{plains_of}
use Rattle.sw_parse_lexemes.specs.Modes.{begins_pseudo}
use Rattle.sw_parse_lexemes.specs.Names.{is, behind_dollar, is_special_name}
use Rattle.sw_parse_lexemes.specs.Signs.{ends_operand}
use Rattle.sw_parse_lexemes.specs.Steps.{in_word, begins_statement}
use Rattle.sw_parse_lexemes.specs.Lexemes.{lexemes_of}

-- a law of each lexeme and the terminal before it
abbrev pub EachBehind : (Terminal → Lexeme → Type 0) → Terminal → List Lexeme → Type 0
EachBehind Law before [] = Unit {0}
EachBehind Law before (lexeme ∷ lexemes) = Law before lexeme × EachBehind Law lexeme.terminal lexemes

-- the same of the lexemes of a text: nothing stands before the first, as behind a `;`
abbrev pub OfText : (List Plain → Terminal → Lexeme → Type 0) → List ℕ → List Token → Type 0
OfText Law bytes tokens = EachBehind (Law (plains_of bytes tokens)) terminals.Semicolon (lexemes_of bytes tokens)

-- `+`, where a number stands directly behind it or not, and an operand before it or not
abbrev pub plus_by : Bool → Bool → Terminal
plus_by true false = terminals.Sign
plus_by false false = terminals.PrefixPlus
plus_by _ true = terminals.Plus

-- `-`, where a number stands directly behind it or not, white space before it or not, and an operand before it or not
abbrev pub minus_by : Bool → Bool → Bool → Terminal
minus_by true true _ = terminals.Sign
minus_by true false false = terminals.Sign
minus_by false _ false = terminals.PrefixMinus
minus_by _ _ true = terminals.Minus

-- `/`, where an operand stands before it or not
abbrev pub slash_by : Bool → Terminal
slash_by true = terminals.Divide
slash_by false = terminals.PrefixSlash

-- what a word may end with: its name, a part of it, or the `}` of a `#{}` in it
abbrev pub ends_word : Terminal → Bool
ends_word terminals.Word = true
ends_word terminals.Part = true
ends_word terminals.AtOther = true
ends_word terminals.Custom = true
ends_word terminals.InsertEnd = true
ends_word _ = false

-- what a `-` is that isn't text
pub data MinusIs (plains : List Plain) (before : Terminal) (lexeme : Lexeme) : Type 0 where
  -- directly behind a word it may go on with it
  goes_on : spaced_at plains lexeme.token ≡ false → ends_word before ≡ true → lexeme.terminal ≡ terminals.Part
      → MinusIs plains before lexeme
  -- directly before `#{` it belongs to the word; behind the `.` of a namespace and white space no word may stand
  begins : is_direct plains (lexeme.token + 1) sorts.OpenInsert ≡ true
      → (lexeme.terminal ≡ terminals.WordMinus) ⊎ ((lexeme.terminal ≡ terminals.Other) × (is before terminals.OwnerDot ≡ true))
      → MinusIs plains before lexeme
  -- any other is told by its neighbours
  stands : is_direct plains (lexeme.token + 1) sorts.OpenInsert ≡ false
      → lexeme.terminal
      ≡ minus_by (number_direct plains (lexeme.token + 1)) (spaced_at plains lexeme.token) (ends_operand before)
      → MinusIs plains before lexeme

-- what a sign is where it isn't text
pub record SignIs (plains : List Plain) (before : Terminal) (lexeme : Lexeme) : Type 0 where
  pub plus : sort_at plains lexeme.token ≡ sorts.Plus
      → (lexeme.terminal ≡ terminals.Raw)
      ⊎ (lexeme.terminal ≡ plus_by (number_direct plains (lexeme.token + 1)) (ends_operand before))
  pub minus : sort_at plains lexeme.token ≡ sorts.Minus
      → (lexeme.terminal ≡ terminals.Raw) ⊎ MinusIs plains before lexeme
  pub slash : sort_at plains lexeme.token ≡ sorts.Slash
      → (lexeme.terminal ≡ terminals.Raw) ⊎ (lexeme.terminal ≡ slash_by (ends_operand before))

-- each sign of a text
abbrev pub SignsAreByNeighbours : List ℕ → List Token → Type 0
SignsAreByNeighbours bytes tokens = OfText SignIs bytes tokens

-- what a name is, by what stands directly before it and directly behind it
pub record NameIs (plains : List Plain) (before : Terminal) (lexeme : Lexeme) : Type 0 where
  -- directly behind a word it goes on with it, and nowhere else
  pub goes_on : spaced_at plains lexeme.token ≡ false → in_word before ≡ true → lexeme.terminal ≡ terminals.Part
  pub part : lexeme.terminal ≡ terminals.Part → (spaced_at plains lexeme.token ≡ false) × (ends_word before ≡ true)
  -- directly behind a `$` it is a variable's, and directly behind a `#` a colour's or a string's
  pub variable : spaced_at plains lexeme.token ≡ false → behind_dollar before ≡ true
      → (lexeme.terminal ≡ terminals.Raw) ⊎ (lexeme.terminal ≡ terminals.VariableName)
  pub hashed : spaced_at plains lexeme.token ≡ false → is before terminals.Hash ≡ true
      → (lexeme.terminal ≡ terminals.Raw) ⊎ (lexeme.terminal ≡ terminals.HashName)
  -- a namespace's stands directly before a `.`, and behind no other namespace
  pub owner : lexeme.terminal ≡ terminals.Owner
      → (is_direct plains (lexeme.token + 1) sorts.Dot ≡ true) × (is before terminals.OwnerDot ≡ false)
  -- one whose call is special text stands directly before `(`, and behind no namespace
  pub special : lexeme.terminal ≡ terminals.Special
      → (is_direct plains (lexeme.token + 1) sorts.OpenParen ≡ true)
      × (is_special_name (sort_at plains lexeme.token) ≡ true) × (is before terminals.OwnerDot ≡ false)

-- the brackets of an expression that are no call's
abbrev pub opens_bracket : Terminal → Bool
opens_bracket terminals.Paren = true
opens_bracket terminals.ConditionParen = true
opens_bracket _ = false

-- names, and what stands beside them
pub record WordIs (plains : List Plain) (before : Terminal) (lexeme : Lexeme) : Type 0 where
  pub name : is_name (sort_at plains lexeme.token) ≡ true → NameIs plains before lexeme
  -- a `.` directly behind a namespace belongs to it; any other is text or a fault
  pub dot : sort_at plains lexeme.token ≡ sorts.Dot → (is before terminals.Owner && not (spaced_at plains lexeme.token)) ≡ true
      → lexeme.terminal ≡ terminals.OwnerDot
  pub lone_dot : sort_at plains lexeme.token ≡ sorts.Dot → (is before terminals.Owner && not (spaced_at plains lexeme.token)) ≡ false
      → (lexeme.terminal ≡ terminals.Raw) ⊎ (lexeme.terminal ≡ terminals.Other)
  -- a `(` behind the name of a special function begins its text; directly behind another word it is no bracket
  pub text : sort_at plains lexeme.token ≡ sorts.OpenParen → is before terminals.Special ≡ true
      → lexeme.terminal ≡ terminals.RawParen
  pub call : sort_at plains lexeme.token ≡ sorts.OpenParen → spaced_at plains lexeme.token ≡ false → in_word before ≡ true
      → opens_bracket lexeme.terminal ≡ false

-- each name of a text
abbrev pub WordsAreByNeighbours : List ℕ → List Token → Type 0
WordsAreByNeighbours bytes tokens = OfText WordIs bytes tokens

-- the place behind the word that begins at a place, where a `:` may stand
abbrev pub behind_word : List Plain → ℕ → ℕ
behind_word plains at = code_from plains (behind_first plains at)

-- a statement that begins with a word at a place declares: a `:` stands behind the word, and not both of these: a name,
-- `#{` or another `:` directly behind it, and a `{` before the first `;` and `}` outside brackets
abbrev pub declares : List Plain → ℕ → Bool
declares plains at =
    same (sort_at plains (behind_word plains at)) sorts.Colon
    && not (begins_pseudo plains (behind_word plains at + 1) && opens_block plains (behind_word plains at + 1))

-- a name that begins with `--`
abbrev pub is_dashed : Sort → Bool
is_dashed sorts.DashedName = true
is_dashed _ = false

-- a name that begins a statement, and is neither a namespace's nor a custom property's
pub record BeginsStatement (plains : List Plain) (before : Terminal) (at : ℕ) : Type 0 where
  pub first : begins_statement before ≡ true
  pub name : is_name (sort_at plains at) ≡ true
  pub word : begins_word plains at ≡ true
  pub alone : is_direct plains (at + 1) sorts.Dot ≡ false
  pub undashed : is_dashed (sort_at plains at) ≡ false

-- a statement that begins with a name is read as text where it declares nothing, and there alone
pub record StatementIs (plains : List Plain) (before : Terminal) (lexeme : Lexeme) : Type 0 where
  pub declaration : BeginsStatement plains before lexeme.token → declares plains lexeme.token ≡ true
      → is lexeme.terminal terminals.Raw ≡ false
  pub rule : BeginsStatement plains before lexeme.token → declares plains lexeme.token ≡ false
      → lexeme.terminal ≡ terminals.Raw

-- each statement of a text
abbrev pub StatementsAreByColon : List ℕ → List Token → Type 0
StatementsAreByColon bytes tokens = OfText StatementIs bytes tokens
