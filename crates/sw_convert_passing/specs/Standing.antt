-- Signs of a text by the terminals before them.
use Rattle.std.specs.Prelude.{◌≡◌, ◌⊎◌, ℕ, Bool, true, false, List}
use Rattle.sw_parse_terminals.specs.declared.terminal.Terminal.{Terminal}
use Rattle.sw_parse_terminals.specs.declared.terminal.Terminal.TheVariants as terminals
use Rattle.sw_parse_terminals.specs.declared.lexeme.Lexeme.{Lexeme}
use Rattle.sw_tokens.specs.declared.token.Token.{Token}
use Rattle.sw_parse_lexemes.specs.declared.plain.Plain.{Plain}
use Rattle.sw_parse_lexemes.specs.Ahead.{spaced_at}
use Rattle.sw_parse_lexemes.specs.Signs.{ends_operand}
use Rattle.sw_parse_lexemes.specs.Laws.{OfText}

-- a sign that is no operator between two values
abbrev pub is_prefix_sign : Terminal → Bool
is_prefix_sign terminals.PrefixPlus = true
is_prefix_sign terminals.PrefixMinus = true
is_prefix_sign terminals.PrefixSlash = true
is_prefix_sign _ = false

abbrev pub is_number_sign : Terminal → Bool
is_number_sign terminals.Sign = true
is_number_sign _ = false

-- such a sign stands behind no value, and a number's sign behind none without white space
pub record SignStands (plains : List Plain) (before : Terminal) (lexeme : Lexeme) : Type 0 where
  pub prefix : is_prefix_sign lexeme.terminal ≡ true → ends_operand before ≡ false
  pub number : is_number_sign lexeme.terminal ≡ true
      → (spaced_at plains lexeme.token ≡ true) ⊎ (ends_operand before ≡ false)

-- each sign of a text
abbrev pub SignsStand : Type 0
SignsStand = (bytes : List ℕ) (tokens : List Token) → OfText SignStands bytes tokens
