-- The table fits: one kind of token decides each choice, and only groups have the tokens that open and close.
use Rattle.std.proofs.Common.{◌≡◌, ℕ, ◌≤◌, true, refl, ap, length}
use Rattle.std.proofs.lemmas.Option.{slice_get_past}
use Rattle.sw_parse_grammar.specs.Grammar.{decided}
use Rattle.sw_parse_grammar.specs.Levels.{nested}
use Rattle.sw_parse_grammar.proofs.Loops.{Fit}
use Rattle.sw_parse_table.specs.Sources.{terminal_in}
use Rattle.sw_parse_css.specs.Seen.{Seen, text_of, terminal_at}
use Rattle.sw_parse_css.specs.Sheets.{Form, Whole, Outside, InRule, Text, forms, opening, closing, finish, text_item, text_items, text, optional_text, value, colon_value, custom_value, selector_rest, pseudo, pseudo_or_value, declaration, custom, named, dashed, rule, at_rule, import, charset, comment, nameless, other, outer_statement, inner_statement}

module _ (seen : Seen) where
  forms_decided : (form : Form) → decided (forms seen) (forms seen form) ≡ true
  unfolding finish text_item text_items text optional_text value colon_value custom_value selector_rest pseudo pseudo_or_value declaration custom named dashed rule at_rule import charset comment nameless other outer_statement inner_statement
  forms_decided Whole = refl
  forms_decided Outside = refl
  forms_decided InRule = refl
  forms_decided Text = refl

  pub forms_nested : (form : Form) → nested opening closing (forms seen form) ≡ true
  unfolding finish text_item text_items text optional_text value colon_value custom_value selector_rest pseudo pseudo_or_value declaration custom named dashed rule at_rule import charset comment nameless other outer_statement inner_statement
  forms_nested Whole = refl
  forms_nested Outside = refl
  forms_nested InRule = refl
  forms_nested Text = refl

  past : (at : ℕ) → length seen.lexemes ≤ at → terminal_at seen at ≡ 0
  unfolding terminal_at
  past at l = ap terminal_in (slice_get_past seen.lexemes at l)

  pub fit : Fit (forms seen) (text_of seen) (length seen.lexemes)
  fit = record { ok = forms_decided; past = past }
