-- The `+` of a number stands behind no operand.
use Rattle.std.proofs.Common.{◌≡◌, ℕ, ◌+◌, Bool, true, false, not, ◌&&◌, if◌then◌else◌, List, refl, sym, ◌∙◌}
use Rattle.sw_text_scan.proofs.Bounds.{and_left, and_right, not_true}
use Rattle.sw_parse_terminals.specs.declared.terminal.Terminal.{Terminal}
use Rattle.sw_parse_terminals.specs.declared.terminal.Terminal.TheVariants as terminals
use Rattle.sw_parse_terminals.specs.declared.lexeme.Lexeme.{Lexeme}
use Rattle.sw_tokens.specs.declared.token.Token.{Token}
use Rattle.sw_parse_lexemes.specs.declared.sort.Sort.TheVariants as sorts
use Rattle.sw_parse_lexemes.specs.declared.plain.Plain.{Plain}
use Rattle.sw_parse_lexemes.specs.declared.state.State.{State}
use Rattle.sw_parse_lexemes.specs.Ahead.{sort_at, number_direct}
use Rattle.sw_parse_lexemes.specs.Names.{is_raw}
use Rattle.sw_parse_lexemes.specs.Signs.{ends_operand, is_text, plus_signs}
use Rattle.sw_parse_lexemes.specs.Terminals.{terminal_of}
use Rattle.sw_parse_lexemes.specs.Lexemes.{lexeme_of}
use Rattle.sw_parse_lexemes.specs.Laws.{OfText}
use Rattle.sw_parse_lexemes.proofs.Knowing.{Placed, of_text}
use Rattle.sw_convert_passing.specs.Standing.{is_number_sign}

module _ (state : State) (plains : List Plain) (at : ℕ) where
  record Behind (terminal : Terminal) : Type 0 where
    operand : is_number_sign terminal ≡ true → ends_operand state.before ≡ false

  other : (terminal : Terminal) → is_number_sign terminal ≡ false → Behind terminal
  other terminal e = record { operand = λ f. absurd (let wrong : true ≡ false = sym f ∙ e in cc) }

  either : (b : Bool) (x y : Terminal) → (b ≡ true → Behind x) → (b ≡ false → Behind y) → Behind (if b then x else y)
  either true x y f g = f refl
  either false x y f g = g refl

  signs : plus_signs state plains at ≡ true → Behind terminals.Sign
  signs s = record {
    operand = λ f. not_true (ends_operand state.before) (and_right (number_direct plains (at + 1)) _ s);
  }

  plus_behind : sort_at plains at ≡ sorts.Plus → Behind (terminal_of state plains at)
  unfolding terminal_of
  plus_behind e = rw (e, terminal_of)
      (either (is_text state.mode) _ _
      (λ t. either (plus_signs state plains at && not (is_raw state.mode)) terminals.Sign terminals.Raw
      (λ s. signs (and_left (plus_signs state plains at) _ s)) (λ s. other terminals.Raw refl))
      (λ t. either (plus_signs state plains at) terminals.Sign _ signs
      (λ s. either (ends_operand state.before) terminals.Plus terminals.PrefixPlus (λ o. other terminals.Plus refl)
      (λ o. other terminals.PrefixPlus refl))))

-- each lexeme of a text
pub record PlusStands (plains : List Plain) (before : Terminal) (lexeme : Lexeme) : Type 0 where
  pub number : is_number_sign lexeme.terminal ≡ true → sort_at plains lexeme.token ≡ sorts.Plus
      → ends_operand before ≡ false

plus_stands : (plains : List Plain) (at : ℕ) (plain : Plain) (old new : State) → Placed plains at old new
    → PlusStands plains new.before (lexeme_of plain at new.commented (terminal_of new plains at))
plus_stands plains at plain old new there = record { number = λ n e. (plus_behind new plains at e).operand n }

pub pluses_stand : (bytes : List ℕ) (tokens : List Token) → OfText PlusStands bytes tokens
pluses_stand bytes tokens = of_text PlusStands plus_stands bytes tokens
