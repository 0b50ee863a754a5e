-- Names of at-rules whose `#{}` stands directly behind the `@`, or behind a `-` there: what is written of them is their
-- tokens.
use Rattle.std.specs.Prelude.{◌≡◌, ℕ, Bool, true, false, List, ◌∷◌}
use Rattle.sw_tree.specs.declared.text.Parts.{Parts}
use Rattle.sw_parse_terminals.specs.declared.terminal.Terminal.TheVariants as terminals
use Rattle.sw_parse_lexemes.specs.declared.sort.Sort.TheVariants as sorts
use Rattle.sw_parse_table.specs.declared.source.Source.{Source}
use Rattle.sw_convert_passing.specs.Written.{Written, written, direct}
use Rattle.sw_convert_passing.specs.Values.{Items, Parts as WordParts, inserted}
use Rattle.sw_convert_again.specs.Tokens.{Tok}
use Rattle.sw_convert_again.specs.Statements.{SpellsAtName, at_word, at_insert, at_minus}
use Rattle.sw_convert_tokens.specs.Written.{Follows}
use Rattle.sw_convert_tokens.specs.Values.{WasRead}
use Rattle.sw_convert_texts.specs.Inserted.{AtNameHasValues}
use Rattle.sw_convert_texts.specs.Names.{joined, NameWritten}

-- it is such a name
abbrev pub begins_inserted : {source : Source} {i j : ℕ} {parts : Parts} {tokens : List Tok}
    → SpellsAtName source i j parts tokens → Bool
begins_inserted (at_insert old opens inner close row) = true
begins_inserted (at_minus old minus opens inner close row) = true
begins_inserted (at_word name) = false

-- what its tokens are to the pass over tokens, with white space before them or not
pub data AsInsertedAt : Bool → List Written → Type 0 where
  at_inserted : {spaced : Bool} {inner parts : List Written} → Items inner → WordParts parts
      → AsInsertedAt spaced (written sorts.At spaced terminals.AtInsert ∷ inserted false terminals.WordInsert inner parts)
  at_minused : {spaced : Bool} {inner parts : List Written} → Items inner → WordParts parts
      → AsInsertedAt spaced
      (written sorts.At spaced terminals.AtInsert ∷ direct sorts.Minus terminals.WordMinus
      ∷ inserted false terminals.WordInsert inner parts)

abbrev pub AtInsertsAreWritten : Type 0
AtInsertsAreWritten =
    (source : Source) (i j : ℕ) (parts : Parts) (tokens : List Tok) → WasRead source
    → (spelt : SpellsAtName source i j parts tokens) → begins_inserted spelt ≡ true → AtNameHasValues spelt
    → NameWritten AsInsertedAt Follows (joined parts) tokens
