-- Statements with blocks in each other, as lines and as tokens.
use Rattle.std.specs.Prelude.{◌≡◌, ℕ, suc, Bool, false, List, [], ◌∷◌, ◌++◌, length, map, Ok, codes}
use Rattle.sw_text.specs.Places.{mark_length}
use Rattle.sw_tokens.specs.declared.pieces.Before.TheVariants as befores
use Rattle.sw_tokens.specs.declared.token.TokenKind.TheVariants as kinds
use Rattle.sw_tokens.specs.Ends.{reached}
use Rattle.sw_parse_layout.specs.Layout.{layout}
use Rattle.sw_convert_spelling.specs.Spelt.{Spelt}
use Rattle.sw_convert_laid.specs.Rows.{Row, rows_text, Sign, Own, Made, own, signs_of, placed, IsRow}

-- a statement of tokens alone, or with the statements in its block; and statements one after another, with a blank line
-- before one or none
mutual
  pub data Statement : Type 0 where
    line : List Spelt → Statement
    block : List Spelt → Statements → Statement

  pub data Statements : Type 0 where
    none : Statements
    more : Bool → Statement → Statements → Statements

-- ---- as lines, in so many blocks

abbrev pub row_of : ℕ → Bool → List Spelt → Row
row_of level blank list = record { level = level; blank = blank; list = list }

abbrev mutual
  pub rows_of : ℕ → Bool → Statement → List Row
  rows_of level blank (line list) = row_of level blank list ∷ []
  rows_of level blank (block list inner) = row_of level blank list ∷ rows_in (suc level) inner

  pub rows_in : ℕ → Statements → List Row
  rows_in level none = []
  rows_in level (more blank one rest) = rows_of level blank one ++ rows_in level rest

-- ---- as tokens, with a `;` behind each statement, or the braces of its block

-- without the white space before it
abbrev pub bare : Sign → Sign
bare (Own spelt) = Own (record { gap = []; kind = spelt.kind; bytes = spelt.bytes; change = spelt.change })
bare (Made gap kind) = Made [] kind

abbrev pub end_sign : Sign
end_sign = Made [] kinds.Semicolon

abbrev pub open_sign : Sign
open_sign = Made [] kinds.OpenBrace

abbrev pub close_sign : Sign
close_sign = Made [] kinds.CloseBrace

abbrev mutual
  pub signs_of_one : Statement → List Sign
  signs_of_one (line list) = map bare (own list) ++ end_sign ∷ []
  signs_of_one (block list inner) = map bare (own list) ++ open_sign ∷ (signs_in inner ++ close_sign ∷ [])

  pub signs_in : Statements → List Sign
  signs_in none = []
  signs_in (more blank one rest) = signs_of_one one ++ signs_in rest

-- ---- a block holds a statement

abbrev pub HasSome : Statements → Type 0
HasSome none = ⊥
HasSome (more blank one rest) = Unit {0}

abbrev mutual
  pub IsWhole : Statement → Type 0
  IsWhole (line list) = Unit {0}
  IsWhole (block list inner) = HasSome inner × AreWhole inner

  pub AreWhole : Statements → Type 0
  AreWhole none = Unit {0}
  AreWhole (more blank one rest) = IsWhole one × AreWhole rest

-- the signs of their lines are theirs
abbrev pub HasSigns : Statements → Type 0
HasSigns statements = AreWhole statements → map bare (signs_of (rows_in 0 statements)) ≡ signs_in statements

-- ---- the layout of their lines

-- each line is one, whatever stands behind it
abbrev pub IsLine : List Spelt → Type 0
IsLine list = (rest : List ℕ) → IsRow (row_of 0 false list) rest

abbrev mutual
  pub HasLines : Statement → Type 0
  HasLines (line list) = IsLine list
  HasLines (block list inner) = IsLine list × HasSome inner × HaveLines inner

  pub HaveLines : Statements → Type 0
  HaveLines none = Unit {0}
  HaveLines (more blank one rest) = HasLines one × HaveLines rest

-- no blank line stands before the first
abbrev pub BeginsAtOnce : Statements → Type 0
BeginsAtOnce none = Unit {0}
BeginsAtOnce (more blank one rest) = blank ≡ false

-- what signs are as text, up to the last line feed
abbrev pub signs_text : List Sign → List ℕ
signs_text [] = []
signs_text (Own spelt ∷ signs) = spelt.gap ++ (spelt.bytes ++ signs_text signs)
signs_text (Made gap kind ∷ signs) = gap ++ signs_text signs

abbrev pub last_line : Statements → List ℕ
last_line none = []
last_line (more blank one rest) = codes "\n"

-- a text of statements in lines, from a place on: the signs that it stands for are those of the statements
pub record AreLaid (bytes : List ℕ) (at : ℕ) (statements : Statements) : Type 0 where
  pub signs : List Sign
  pub are : map bare signs ≡ signs_in statements
  pub text : rows_text (rows_in 0 statements) ≡ signs_text signs ++ last_line statements
  pub layout_is : layout bytes ≡ Ok (reached (placed befores.White at signs)).list

abbrev pub StatementsAreLaid : List ℕ → List ℕ → Statements → Type 0
StatementsAreLaid bytes mark statements =
    bytes ≡ mark ++ rows_text (rows_in 0 statements) → mark_length bytes ≡ length mark → BeginsAtOnce statements
    → HaveLines statements → AreLaid bytes (length mark) statements
