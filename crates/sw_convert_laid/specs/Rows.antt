-- Lines that are written one below the other, and the tokens that they stand for.
use Rattle.std.specs.Prelude.{◌≡◌, ◌≤◌, ℕ, zero, suc, ◌+◌, ◌-◌, Bool, true, false, nat_lt, if◌then◌else◌, List, [], ◌∷◌, ◌++◌, length, Some, Ok, codes}
use Rattle.sw_text.specs.Places.{mark_length}
use Rattle.sw_tokens.specs.declared.pieces.Before.{Before}
use Rattle.sw_tokens.specs.declared.pieces.Before.TheVariants as befores
use Rattle.sw_tokens.specs.declared.token.Token.{Token}
use Rattle.sw_tokens.specs.declared.token.TokenKind.{TokenKind}
use Rattle.sw_tokens.specs.declared.token.TokenKind.TheVariants as kinds
use Rattle.sw_tokens.specs.Ends.{reached}
use Rattle.sw_tokens.specs.Tokens.{before_of, is_spaced}
use Rattle.sw_parse_layout.specs.Laid.{sign_at}
use Rattle.sw_parse_layout.specs.Layout.{layout}
use Rattle.sw_convert_spelling.specs.Spelt.{Spelt, text_of, behind_gap, end_of}
use Rattle.sw_convert_laid.specs.Heads.{untold, is_comment, AreHeld}

-- the text of a line: a statement up to its end or to its block, which stands in so many blocks
pub record Row : Type 0 where
  pub level : ℕ
  -- a blank line stands before it
  pub blank : Bool
  pub list : List Spelt

-- ---- the text

-- two spaces for each block around
abbrev pub margin : ℕ → List ℕ
margin zero = []
margin (suc level) = codes "  " ++ margin level

abbrev pub blank_line : Bool → List ℕ
blank_line true = codes "\n"
blank_line false = []

-- before the text of a line
abbrev pub row_gap : Row → List ℕ
row_gap row = blank_line row.blank ++ margin row.level

abbrev pub rows_text : List Row → List ℕ
rows_text [] = []
rows_text (row ∷ rows) = row_gap row ++ (text_of row.list ++ (codes "\n" ++ rows_text rows))

-- ---- the tokens

-- a token as it is written, or a sign that lines stand for, behind white space
pub data Sign : Type 0 where
  Own : Spelt → Sign
  Made : List ℕ → TokenKind → Sign

abbrev pub own : List Spelt → List Sign
own [] = []
own (spelt ∷ list) = Own spelt ∷ own list

-- the first one behind this white space
abbrev pub own_behind : List ℕ → List Spelt → List Sign
own_behind gap [] = []
own_behind gap (spelt ∷ list) =
    Own (record { gap = gap ++ spelt.gap; kind = spelt.kind; bytes = spelt.bytes; change = spelt.change }) ∷ own list

-- the ends of so many blocks
abbrev pub ends : ℕ → List Sign
ends zero = []
ends (suc count) = Made [] kinds.CloseBrace ∷ ends count

-- the end of a statement, and of so many blocks
abbrev pub ended : ℕ → List Sign
ended count = Made [] kinds.Semicolon ∷ ends count

-- a line behind another one, in so many blocks: deeper it stands in a block, else it ends the statement before it
abbrev pub entered : ℕ → Row → List Sign
entered level row =
    if nat_lt level row.level then Made (codes "\n" ++ row_gap row) kinds.OpenBrace ∷ own row.list
    else ended (level - row.level) ++ own_behind (codes "\n" ++ row_gap row) row.list

-- the lines behind a line in so many blocks
abbrev pub signs_behind : ℕ → List Row → List Sign
signs_behind level [] = ended level
signs_behind level (row ∷ rows) = entered level row ++ signs_behind row.level rows

abbrev pub signs_of : List Row → List Sign
signs_of [] = []
signs_of (row ∷ rows) = own row.list ++ signs_behind row.level rows

-- where they stand from a place on, behind what stands directly before it
abbrev pub placed : Before → ℕ → List Sign → List Token
placed before at [] = []
placed before at (Own spelt ∷ signs) =
    record {
      kind = spelt.kind;
      from = at + length spelt.gap;
      to = end_of at spelt;
      spaced = is_spaced (behind_gap before spelt.gap);
    } ∷ placed (before_of (Some spelt.kind)) (end_of at spelt) signs
placed before at (Made gap kind ∷ signs) =
    sign_at kind (at + length gap) ∷ placed befores.White (at + length gap) signs

-- ---- what is asked of lines

-- a line doesn't begin with white space or a comment
abbrev pub Begins : List Spelt → Type 0
Begins [] = ⊥
Begins (spelt ∷ list) = (spelt.gap ≡ []) × (is_comment spelt.kind ≡ false)

pub record IsRow (row : Row) (rest : List ℕ) : Type 0 where
  pub begins : Begins row.list
  pub held : AreHeld untold befores.White row.list (codes "\n" ++ rest)

-- behind a line in so many blocks, each at most one block deeper than the one before it
abbrev pub AreRows : ℕ → List Row → Type 0
AreRows level [] = Unit {0}
AreRows level (row ∷ rows) = (row.level ≤ level + 1) × IsRow row (rows_text rows) × AreRows row.level rows

-- the first line stands in no block, and no blank line before it
abbrev pub IsSheet : List Row → Type 0
IsSheet [] = Unit {0}
IsSheet (row ∷ rows) =
    (row.level ≡ 0) × (row.blank ≡ false) × IsRow row (rows_text rows) × AreRows row.level rows

-- the layout of a text that is such lines, behind a byte order mark or none, is these tokens
abbrev pub HasLayout : List ℕ → List ℕ → List Row → Type 0
HasLayout bytes mark rows =
    bytes ≡ mark ++ rows_text rows → mark_length bytes ≡ length mark → IsSheet rows
    → layout bytes ≡ Ok (reached (placed befores.White (length mark) (signs_of rows))).list
