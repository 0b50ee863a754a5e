-- The text that is written of an expression that was read reads to an expression alike.
use Rattle.std.specs.Prelude.{◌≡◌, ℕ, List, [], ◌∷◌, length, false, Ok}
use Rattle.sw_text.specs.Places.{mark_length}
use Rattle.sw_tree.specs.declared.expr.Expr.{Expr}
use Rattle.sw_tokens.specs.Ends.{tokens_of}
use Rattle.sw_parse_lexemes.specs.declared.state.Mode.TheVariants as modes
use Rattle.sw_parse_lexemes.specs.Lexemes.{value_lexemes_of}
use Rattle.sw_parse_table.specs.declared.source.Source.{Source}
use Rattle.sw_parse_table.specs.Parts.{Values}
use Rattle.sw_parse_table.specs.Sources.{bytes}
use Rattle.sw_parse_table.specs.Expressions.{expr}
use Rattle.sw_convert_alike.specs.Expressions.{Like}
use Rattle.sw_convert_written.specs.Expressions.{expr_text}
use Rattle.sw_convert_again.specs.Again.{Reads}
use Rattle.sw_convert_tokens.specs.Values.{WasRead}
use Rattle.sw_convert_values.specs.Values.{is_led, goes_on, SinglesAreWritten}

-- what is read of a text as an expression: its tokens, and what the grammar sees of them
pub record IsText (source : Source) (text : List ℕ) : Type 0 where
  pub text_is : bytes source ≡ text
  pub unmarked : mark_length text ≡ 0
  pub tokens_are : tokens_of text ≡ Ok source.tokens.now.list
  pub lexemes_are : source.lexemes.now ≡ value_lexemes_of text source.tokens.now.list modes.Expression 0

-- all of it derives an expression like this one
pub record ReadsAlike (source : Source) (levels : ℕ) (value : Expr) : Type 0 where
  pub found : Expr
  pub reads : Reads source levels (expr source) 0 (length source.lexemes.now) (Values found ∷ [])
  pub alike : Like value found

abbrev pub ExpressionsReadBack : Type 0
ExpressionsReadBack =
    (source written : Source) (levels i j : ℕ) (value : Expr) → WasRead source → SinglesAreWritten source
    → is_led source i ≡ false → goes_on source j ≡ false → Reads source levels (expr source) i j (Values value ∷ []) → IsText written (expr_text value)
    → ReadsAlike written levels value
