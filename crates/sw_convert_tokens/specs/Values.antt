-- A sheet that was read, and what is written of a value that stood in it.
use Rattle.std.specs.Prelude.{◌≡◌, ◌⊎◌, ℕ, Bool, true, List, Some, Ok}
use Rattle.sw_parse_terminals.specs.declared.lexeme.Lexeme.{Lexeme}
use Rattle.sw_parse_table.specs.declared.source.Source.{Source}
use Rattle.sw_tokens.specs.Ends.{tokens_of}
use Rattle.sw_parse_lexemes.specs.declared.sort.Sort.TheVariants as sorts
use Rattle.sw_parse_lexemes.specs.Ahead.{sort_at}
use Rattle.sw_parse_lexemes.specs.Plains.{plains_of}
use Rattle.sw_parse_lexemes.specs.Lexemes.{lexemes_of}
use Rattle.sw_parse_table.specs.Sources.{bytes, lexeme_at}
use Rattle.sw_convert_spelling.specs.Strings.{are_bytes}
use Rattle.sw_convert_passing.specs.Standing.{is_prefix_sign, is_number_sign}
use Rattle.sw_convert_again.specs.Tokens.{Tok}
use Rattle.sw_convert_tokens.specs.Written.{AsValue, WrittenAs}

-- a sheet of bytes that was read: its tokens are those of its text, and its lexemes what the grammar sees of them
pub record WasRead (source : Source) : Type 0 where
  pub of_bytes : are_bytes (bytes source) ≡ true
  pub tokens : tokens_of (bytes source) ≡ Ok source.tokens.now.list
  pub lexemes : source.lexemes.now ≡ lexemes_of (bytes source) source.tokens.now.list

-- a sign before a value stood there, or the `+` of a number
pub record OldSign (source : Source) (at : ℕ) : Type 0 where
  pub lexeme : Lexeme
  pub there : lexeme_at source at ≡ Some lexeme
  pub is : (is_prefix_sign lexeme.terminal ≡ true)
      ⊎ ((is_number_sign lexeme.terminal ≡ true)
      × (sort_at (plains_of (bytes source) source.tokens.now.list) lexeme.token ≡ sorts.Plus))

-- a text is the tokens of a value, and where these begin with a sign, one stood there
pub record IsValueWritten (source : Source) (at : ℕ) (text : List ℕ) (tokens : List Tok) : Type 0 where
  pub signed : Bool
  pub written : WrittenAs (AsValue signed) text tokens
  pub sign : signed ≡ true → OldSign source at
