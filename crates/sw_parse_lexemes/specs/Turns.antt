-- Which tokens the grammar sees: each of them once, in their order, but for those of comments that are white space.
use Rattle.std.specs.Prelude.{◌≡◌, ◌⊎◌, ℕ, ◌+◌, Bool, true, false, List, [], ◌∷◌}
use Rattle.sw_parse_terminals.specs.declared.lexeme.Lexeme.{Lexeme}
use Rattle.sw_tokens.specs.declared.token.Token.{Token}
use Rattle.sw_parse_lexemes.specs.declared.plain.Plain.{Plain}
use Rattle.sw_parse_lexemes.specs.Classes.{is_comment}
use Rattle.sw_parse_lexemes.specs.Ahead.{sort_at}
use Rattle.sw_parse_lexemes.specs.Plains.{plains_of}
use Rattle.sw_parse_lexemes.specs.Lexemes.{lexemes_of}

-- these lexemes are of these tokens, which stand from a place on; whether the token before them is left out
pub data InTurn (plains : List Plain) : ℕ → Bool → List Token → List Lexeme → Type 0 where
  ended : {at : ℕ} {left : Bool} → InTurn plains at left [] []
  -- a token has one lexeme, which names its place and begins where it does
  seen : {at : ℕ} {left : Bool} {tokens : List Token} {lexemes : List Lexeme} → (token : Token) (lexeme : Lexeme)
      → lexeme.token ≡ at → lexeme.from ≡ token.from → InTurn plains (at + 1) false tokens lexemes
      → InTurn plains at left (token ∷ tokens) (lexeme ∷ lexemes)
  -- a token is left out where it begins a comment, or where the one before it is left out
  white : {at : ℕ} {left : Bool} {tokens : List Token} {lexemes : List Lexeme} → (token : Token)
      → (is_comment (sort_at plains at) ≡ true) ⊎ (left ≡ true) → InTurn plains (at + 1) true tokens lexemes
      → InTurn plains at left (token ∷ tokens) lexemes

-- what the grammar sees of the tokens of a text
abbrev pub SeenInTurn : List ℕ → List Token → Type 0
SeenInTurn bytes tokens = InTurn (plains_of bytes tokens) 0 false tokens (lexemes_of bytes tokens)
