-- What a word or a name goes on with stands directly behind it, in every sheet that was read.
use Rattle.std.specs.Prelude.{◌≡◌, ℕ, suc, false, Some}
use Rattle.sw_parse_terminals.specs.declared.lexeme.Lexeme.{Lexeme}
use Rattle.sw_parse_terminals.specs.declared.terminal.Terminal.TheVariants as terminals
use Rattle.sw_parse_terminals.specs.Numbers.{just}
use Rattle.sw_parse_table.specs.declared.source.Source.{Source}
use Rattle.sw_parse_table.specs.Sources.{lexeme_at, from_at, to_at, is_commented}
use Rattle.sw_convert_again.specs.Tokens.{Old}
use Rattle.sw_convert_tokens.specs.Values.{WasRead}

-- the token behind the one at k begins where that ends, and no comment stands between them
pub record Adjoins (source : Source) (k : ℕ) : Type 0 where
  pub from : from_at source (suc k) ≡ to_at source k
  pub calm : is_commented source (suc k) ≡ false

-- a part of a word or of a name stands behind it, or a `#{` that such a one goes on with, or that stands behind its `-`
pub data GoesOn (source : Source) (k : ℕ) : Type 0 where
  part : Old source (suc k) (just terminals.Part) → GoesOn source k
  insert : Old source (suc k) (just terminals.PartInsert) → GoesOn source k
  minus : Old source k (just terminals.WordMinus) → Old source (suc k) (just terminals.WordInsert) → GoesOn source k

abbrev pub PartsAdjoin : Type 0
PartsAdjoin =
    (source : Source) (k : ℕ) (lexeme : Lexeme) → WasRead source → lexeme_at source k ≡ Some lexeme → GoesOn source k
    → Adjoins source k
