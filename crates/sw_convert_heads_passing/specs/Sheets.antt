-- Whole sheets of statements, and what the grammar sees of them.
use Rattle.std.specs.Prelude.{◌≡◌, ℕ, ◌+◌, length, Bool, List, [], ◌∷◌}
use Rattle.sw_tokens.specs.declared.token.Token.{Token}
use Rattle.sw_parse_terminals.specs.declared.lexeme.Lexeme.{Lexeme}
use Rattle.sw_parse_lexemes.specs.declared.sort.Sort.TheVariants as sorts
use Rattle.sw_parse_lexemes.specs.Plains.{plains_of}
use Rattle.sw_parse_lexemes.specs.Lexemes.{lexemes_of}
use Rattle.sw_convert_passing.specs.Written.{Written, Among, Stand}
use Rattle.sw_convert_heads_passing.specs.RawTexts.{AreBraces}
use Rattle.sw_convert_heads_passing.specs.Heads.{AreKeywords}
use Rattle.sw_convert_heads_passing.specs.Statements.{Statements}

-- tokens from a place on, and what the grammar sees of them: each is a terminal that it may be, but comments within a
-- statement aren't seen
pub data Seen : ℕ → List Written → List Lexeme → Type 0 where
  nothing_seen : {at : ℕ} → Seen at [] []
  seen : {at : ℕ} {tokens : List Written} {lexemes : List Lexeme} → (one : Written) (lexeme : Lexeme)
      → lexeme.token ≡ at → Among lexeme.terminal one.may_be → Seen (at + 1) tokens lexemes
      → Seen at (one ∷ tokens) (lexeme ∷ lexemes)
  unseen : {at : ℕ} {tokens : List Written} {lexemes : List Lexeme} → (one : Written) → one.sort ≡ sorts.Comment
      → Seen (at + 1) tokens lexemes → Seen at (one ∷ tokens) lexemes

-- the grammar sees of a sheet that isn't written in lines what its statements are written as
abbrev pub SheetsAreTold : Type 0
SheetsAreTold =
    (bytes : List ℕ) (tokens : List Token) (else_first : Bool) (statements : List Written)
    → Statements else_first statements
    → AreBraces (plains_of bytes tokens) → AreKeywords (plains_of bytes tokens)
    → Stand (plains_of bytes tokens) 0 statements (length (plains_of bytes tokens))
    → Seen 0 statements (lexemes_of bytes tokens)
