-- Which terminal a token is given by its sort.
use Rattle.std.proofs.Common.{◌≡◌, ℕ, true, false, if◌then◌else◌, List, refl}
use Rattle.sw_text_scan.proofs.Bounds.{if_false}
use Rattle.sw_parse_terminals.specs.declared.terminal.Terminal.TheVariants as terminals
use Rattle.sw_parse_lexemes.specs.declared.sort.Sort.{Sort}
use Rattle.sw_parse_lexemes.specs.declared.sort.Sort.TheVariants as sorts
use Rattle.sw_parse_lexemes.specs.declared.plain.Plain.{Plain}
use Rattle.sw_parse_lexemes.specs.declared.state.State.{State}
use Rattle.sw_parse_lexemes.specs.Ahead.{sort_at}
use Rattle.sw_parse_lexemes.specs.Signs.{is_text, by_operand, insert_terminal, plus_terminal, minus_terminal, star_terminal, dollar_terminal, bang_terminal, dot_terminal, comma_terminal}
use Rattle.sw_parse_lexemes.specs.Brackets.{paren_terminal}
use Rattle.sw_parse_lexemes.specs.Terminals.{number_terminal, digits_terminal, string_terminal, terminal_of}
use Rattle.sw_convert_passing.specs.Kinds.{is_lone, lone}

module _ (state : State) (plains : List Plain) (at : ℕ) where
  pub by_digits : sort_at plains at ≡ sorts.Digits → terminal_of state plains at ≡ digits_terminal state plains at
  unfolding terminal_of
  by_digits e = rw (e, terminal_of) refl

  pub by_number : sort_at plains at ≡ sorts.Number → terminal_of state plains at ≡ number_terminal state.mode
  unfolding terminal_of
  by_number e = rw (e, terminal_of) refl

  pub by_quoted : sort_at plains at ≡ sorts.Quoted → terminal_of state plains at ≡ string_terminal state plains at true
  unfolding terminal_of
  by_quoted e = rw (e, terminal_of) refl

  pub by_unnamed : sort_at plains at ≡ sorts.Unnamed
      → terminal_of state plains at ≡ string_terminal state plains at false
  unfolding terminal_of
  by_unnamed e = rw (e, terminal_of) refl

  pub by_insert : sort_at plains at ≡ sorts.OpenInsert → terminal_of state plains at ≡ insert_terminal state plains at
  unfolding terminal_of
  by_insert e = rw (e, terminal_of) refl

  pub by_insert_end : sort_at plains at ≡ sorts.CloseInsert → terminal_of state plains at ≡ terminals.InsertEnd
  unfolding terminal_of
  by_insert_end e = rw (e, terminal_of) refl

  pub by_paren : sort_at plains at ≡ sorts.OpenParen → terminal_of state plains at ≡ paren_terminal state plains at
  unfolding terminal_of
  by_paren e = rw (e, terminal_of) refl

  pub by_dot : sort_at plains at ≡ sorts.Dot → terminal_of state plains at ≡ dot_terminal state plains at
  unfolding terminal_of
  by_dot e = rw (e, terminal_of) refl

  pub by_dollar : sort_at plains at ≡ sorts.Dollar → terminal_of state plains at ≡ dollar_terminal state plains at
  unfolding terminal_of
  by_dollar e = rw (e, terminal_of) refl

  pub by_bang : sort_at plains at ≡ sorts.Exclamation → terminal_of state plains at ≡ bang_terminal state plains at
  unfolding terminal_of
  by_bang e = rw (e, terminal_of) refl

  pub by_plus : sort_at plains at ≡ sorts.Plus → terminal_of state plains at ≡ plus_terminal state plains at
  unfolding terminal_of
  by_plus e = rw (e, terminal_of) refl

  pub by_minus : sort_at plains at ≡ sorts.Minus → terminal_of state plains at ≡ minus_terminal state plains at
  unfolding terminal_of
  by_minus e = rw (e, terminal_of) refl

  pub by_star : sort_at plains at ≡ sorts.Star → terminal_of state plains at ≡ star_terminal state plains at
  unfolding terminal_of
  by_star e = rw (e, terminal_of) refl

  pub by_slash : sort_at plains at ≡ sorts.Slash
      → terminal_of state plains at
      ≡ (if is_text state.mode then terminals.Raw else by_operand state terminals.Divide terminals.PrefixSlash)
  unfolding terminal_of
  by_slash e = rw (e, terminal_of) refl

  pub by_bracket : sort_at plains at ≡ sorts.OpenBracket
      → terminal_of state plains at ≡ (if is_text state.mode then terminals.RawBracket else terminals.Bracket)
  unfolding terminal_of
  by_bracket e = rw (e, terminal_of) refl

  pub by_comma : sort_at plains at ≡ sorts.Comma → terminal_of state plains at ≡ comma_terminal state.mode
  unfolding terminal_of
  by_comma e = rw (e, terminal_of) refl

  -- where text isn't raw
  module _ (code : is_text state.mode ≡ false) where
    lone_by : (sort : Sort) → is_lone sort ≡ true → sort_at plains at ≡ sort → terminal_of state plains at ≡ lone sort
    unfolding terminal_of
    lone_by sorts.Hex l e = rw (e, terminal_of) (if_false (is_text state.mode) terminals.Raw _ code)
    lone_by sorts.Template l e = rw (e, terminal_of) (if_false (is_text state.mode) terminals.Raw _ code)
    lone_by sorts.Text l e = rw (e, terminal_of) (if_false (is_text state.mode) terminals.Raw _ code)
    lone_by sorts.TemplateEnd l e = rw (e, terminal_of) (if_false (is_text state.mode) terminals.Raw _ code)
    lone_by sorts.Url l e = rw (e, terminal_of) (if_false (is_text state.mode) terminals.Raw _ code)
    lone_by sorts.UrlTemplate l e = rw (e, terminal_of) (if_false (is_text state.mode) terminals.Raw _ code)
    lone_by sorts.Piece l e = rw (e, terminal_of) (if_false (is_text state.mode) terminals.Raw _ code)
    lone_by sorts.UrlEnd l e = rw (e, terminal_of) (if_false (is_text state.mode) terminals.Raw _ code)
    lone_by sorts.Range l e = rw (e, terminal_of) (if_false (is_text state.mode) terminals.Raw _ code)
    lone_by sorts.Colon l e = rw (e, terminal_of) (if_false (is_text state.mode) terminals.Raw _ code)
    lone_by sorts.Ellipsis l e = rw (e, terminal_of) (if_false (is_text state.mode) terminals.Raw _ code)
    lone_by sorts.Hash l e = rw (e, terminal_of) (if_false (is_text state.mode) terminals.Raw _ code)
    lone_by sorts.Ampersand l e = rw (e, terminal_of) (if_false (is_text state.mode) terminals.Raw _ code)
    lone_by sorts.Percent l e = rw (e, terminal_of) (if_false (is_text state.mode) terminals.Raw _ code)
    lone_by sorts.EqualsEquals l e = rw (e, terminal_of) (if_false (is_text state.mode) terminals.Raw _ code)
    lone_by sorts.NotEquals l e = rw (e, terminal_of) (if_false (is_text state.mode) terminals.Raw _ code)
    lone_by sorts.Less l e = rw (e, terminal_of) (if_false (is_text state.mode) terminals.Raw _ code)
    lone_by sorts.LessEquals l e = rw (e, terminal_of) (if_false (is_text state.mode) terminals.Raw _ code)
    lone_by sorts.Greater l e = rw (e, terminal_of) (if_false (is_text state.mode) terminals.Raw _ code)
    lone_by sorts.GreaterEquals l e = rw (e, terminal_of) (if_false (is_text state.mode) terminals.Raw _ code)
    lone_by _ l e = absurd (cc)

    pub lone_here : (sort : Sort) → is_lone sort ≡ true → sort_at plains at ≡ sort
        → terminal_of state plains at ≡ lone sort
    lone_here sort l e = lone_by sort l e
