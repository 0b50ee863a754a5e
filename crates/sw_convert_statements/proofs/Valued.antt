-- At-rules with a value.
use Rattle.std.proofs.Common.{◌≡◌, ℕ, true, false, List, ◌∷◌, ◌++◌, inl, refl}
use Rattle.std.specs.Prelude.{codes}
use Rattle.sw_tree.specs.declared.statement.Level.{Level}
use Rattle.sw_tree.specs.declared.statement.Level.TheVariants as levels
use Rattle.sw_text_scan.specs.Bytes.{sign}
use Rattle.sw_tokens.specs.declared.pieces.Before.TheVariants as befores
use Rattle.sw_parse_terminals.specs.declared.terminal.Terminal.TheVariants as terminals
use Rattle.sw_parse_lexemes.specs.declared.sort.Sort.{Sort}
use Rattle.sw_parse_lexemes.specs.declared.sort.Sort.TheVariants as sorts
use Rattle.sw_parse_lexemes.specs.declared.state.Mode.TheVariants as modes
use Rattle.sw_parse_lexemes.specs.Classes.{is_else}
use Rattle.sw_convert_written.specs.Heads.{say_word}
use Rattle.sw_convert_passing.specs.Heads.{takes_value, at_rule, at_rule_head}
use Rattle.sw_convert_again.specs.Tokens.{Tok}
use Rattle.sw_convert_again.specs.Tokens as again
use Rattle.sw_convert_again.specs.Statements.{say_name}
use Rattle.sw_convert_tokens.specs.Written.{AsRow, WrittenAs}
use Rattle.sw_convert_tokens.proofs.Unclosed.{space_ends, follows_end}
use Rattle.sw_convert_heads_passing.specs.Flow.{else_if_head}
use Rattle.sw_convert_heads_passing.specs.Statements.{valued, flowing}
use Rattle.sw_convert_statements.specs.Segments.{FrontWritten, ElseWritten}
use Rattle.sw_convert_statements.proofs.Segments.{sheet, join, as_behind, text_follows}
use Rattle.sw_convert_statements.proofs.Keywords.{IsKeyword, keyword, spaced_word}

-- a keyword, a space and a value
pub value_rule : {word value : List ℕ} {tokens : List Tok} (sort : Sort) → takes_value sort ≡ true → is_else sort ≡ false
    → IsKeyword (at_rule sort) sort word → WrittenAs AsRow value tokens
    → FrontWritten modes.Expression (word ++ (codes " " ++ value)) (again.sign (at_rule sort) ∷ tokens)
value_rule {word} {value} sort takes no_else key it before calm =
    let one = it befores.Other true refl in record {
      passed = _;
      first = no_else;
      front = valued (at_rule_head sort takes) (one.told modes.Expression refl).1;
      end = befores.Other;
      loose = λ u. refl;
      segment = as_behind
          (λ after e. follows_end word value (sign " ") space_ends after (text_follows (word ++ (codes " " ++ value)) after e))
          (join (sheet (key.segment before calm)) (sheet one.segment) (λ after f. (value ++ after, inl refl)));
    }

module _ {value : List ℕ} {tokens : List Tok} (it : WrittenAs AsRow value tokens) where
  pub return_written : FrontWritten modes.Expression (codes "@return " ++ value) (again.sign terminals.AtReturn ∷ tokens)
  return_written = value_rule sorts.AtReturn refl refl (keyword terminals.AtReturn sorts.AtReturn refl) it

  pub say_written : (level : Level)
      → FrontWritten modes.Expression (say_word level ++ value) (again.sign (say_name level) ∷ tokens)
  say_written levels.Warn = value_rule sorts.AtWarn refl refl (keyword terminals.AtWarn sorts.AtWarn refl) it
  say_written levels.Debug = value_rule sorts.AtDebug refl refl (keyword terminals.AtDebug sorts.AtDebug refl) it
  say_written levels.Error = value_rule sorts.AtError refl refl (keyword terminals.AtError sorts.AtError refl) it

  pub if_written : FrontWritten modes.Expression (codes "@if " ++ value) (again.sign terminals.AtIf ∷ tokens)
  if_written = value_rule sorts.AtIf refl refl (keyword terminals.AtIf sorts.AtIf refl) it

  pub while_written : FrontWritten modes.Expression (codes "@while " ++ value) (again.sign terminals.AtWhile ∷ tokens)
  while_written = value_rule sorts.AtWhile refl refl (keyword terminals.AtWhile sorts.AtWhile refl) it

  -- `@else if` in two words
  pub else_if_written : ElseWritten modes.Expression (codes "@else if " ++ value)
      (again.sign terminals.AtElseIf ∷ again.sign terminals.If ∷ tokens)
  else_if_written before calm =
      let one = it befores.Other true refl in record {
        passed = _;
        first = refl;
        front = flowing else_if_head (one.told modes.Expression refl).1;
        end = befores.Other;
        loose = λ u. refl;
        segment = as_behind
            (λ after e. follows_end (codes "@else if") value (sign " ") space_ends after
            (text_follows (codes "@else if " ++ value) after e))
            (join (sheet ((keyword terminals.AtElseIf sorts.AtElse refl).segment before calm))
            (join (sheet (spaced_word sorts.If refl befores.Other)) (sheet one.segment) (λ after f. (value ++ after, refl)))
            (λ after f. (codes "if " ++ (value ++ after), inl refl)));
      }
